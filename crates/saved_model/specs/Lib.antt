pub mod Step
pub mod History
pub mod Written
pub mod Theorem
