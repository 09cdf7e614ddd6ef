pub mod EntryLaws
pub mod LookupLaws
