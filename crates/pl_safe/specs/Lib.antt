pub mod Runs
pub mod Ordinary
pub mod Texts
pub mod Laws
pub mod Safe
