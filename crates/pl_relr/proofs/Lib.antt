pub mod EntryLaws
pub mod PlaceLaws
pub mod PackLaws
pub mod MoveLaws
