pub mod Together
pub mod Disjoint
pub mod Shared
pub mod Laws
