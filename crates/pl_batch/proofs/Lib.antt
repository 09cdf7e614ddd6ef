pub mod FolderLemmas
pub mod ReadLemmas
pub mod AllLemmas
pub mod SizeLemmas
pub mod EntryLemmas
pub mod VerifyLemmas
