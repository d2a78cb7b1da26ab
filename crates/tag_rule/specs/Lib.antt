pub mod Rows
pub mod Named
pub mod Fates
pub mod Answers
