pub mod Rule
pub mod Plan
pub mod History
pub mod Laws
