pub mod Left
pub mod Policy
pub mod Numbering
pub mod Policies
pub mod Placing
