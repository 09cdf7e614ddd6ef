pub mod MapLaws
pub mod PlacedLaws
