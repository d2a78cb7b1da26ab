pub mod Faults
pub mod Late
pub mod Taken
pub mod Ready
