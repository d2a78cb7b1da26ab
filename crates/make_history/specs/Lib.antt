pub mod Made
pub mod Rows
pub mod Drafts
pub mod Histories
