pub mod Fixed
pub mod Laws
pub mod Stays
