pub mod Added
pub mod News
pub mod Directories
pub mod Entries
