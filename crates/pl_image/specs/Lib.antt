pub mod Lines
pub mod Loads
pub mod Image
pub mod Index
pub mod Patch
