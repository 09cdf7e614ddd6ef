pub mod Graph
pub mod Leads
pub mod Found
pub mod Right
pub mod Lawful
pub mod Flags
pub mod OrderText
pub mod Laws
