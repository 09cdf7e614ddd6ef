pub mod Kinds
pub mod Ranges
pub mod Headers
pub mod Clauses
pub mod Written
pub mod Sweep
