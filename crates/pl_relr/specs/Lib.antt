pub mod Entries
pub mod Places
pub mod Pack
pub mod Moved
