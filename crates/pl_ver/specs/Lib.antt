pub mod Fields
pub mod Chains
pub mod Lengths
pub mod Taken
pub mod Versions
pub mod Collecting
