pub mod Fields
pub mod CacheLaws
pub mod LoopLaws
