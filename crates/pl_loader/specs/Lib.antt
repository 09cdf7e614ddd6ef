pub mod Faults
pub mod Loading
pub mod Walk
pub mod Fast
pub mod Places
pub mod Started
pub mod Given
