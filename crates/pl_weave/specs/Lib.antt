pub mod Taking
pub mod Copying
pub mod Opening
pub mod Runs
pub mod Running
pub mod Weaving
pub mod Laws
