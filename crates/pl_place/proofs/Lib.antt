pub mod CountLaws
pub mod NumberLaws
pub mod PolicyLaws
pub mod LeftLaws
pub mod PlacedLaws
