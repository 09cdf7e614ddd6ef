pub mod Holes
pub mod Apart
pub mod Plan
