pub mod Folder
pub mod All
pub mod Changes
pub mod Verify
