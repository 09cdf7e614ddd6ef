pub mod Words
pub mod Pie
pub mod Fix
pub mod Laws
pub mod ReadAs
pub mod Placed
