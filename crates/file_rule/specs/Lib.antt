pub mod Parents
pub mod Made
pub mod Rows
pub mod Back
