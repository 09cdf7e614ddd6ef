pub mod Made
pub mod Prelinked
pub mod Counted
pub mod Demo
pub mod Laws
