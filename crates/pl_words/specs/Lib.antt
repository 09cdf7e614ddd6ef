pub mod Line
pub mod Found
pub mod Numbers
pub mod Values
pub mod Table
pub mod Statuses
