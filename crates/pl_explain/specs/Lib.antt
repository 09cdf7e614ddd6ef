pub mod Options
pub mod Quiet
