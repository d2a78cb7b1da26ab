pub mod Faults
pub mod Groups
pub mod Known
pub mod Views
