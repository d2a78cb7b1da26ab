pub mod Faults
pub mod Kinds
pub mod Refusals
pub mod Words
