pub mod Values
pub mod Faults
pub mod Rows
pub mod Entries
