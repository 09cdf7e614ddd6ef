pub mod Moves
pub mod Objects
