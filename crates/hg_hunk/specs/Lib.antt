pub mod Faults
pub mod Wholes
