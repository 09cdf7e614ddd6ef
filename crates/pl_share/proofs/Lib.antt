pub mod SoundLaws
pub mod StepLaws
pub mod DisjointLaws
pub mod FlagLaws
pub mod KeptLaws
pub mod AgreeLaws
