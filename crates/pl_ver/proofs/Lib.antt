pub mod ChainLaws
pub mod LengthLaws
pub mod TakenLaws
pub mod CollectingLaws
