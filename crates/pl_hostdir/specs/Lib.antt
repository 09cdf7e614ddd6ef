pub mod Bits
pub mod Errors
pub mod Listing
pub mod Paths
pub mod Unseen
