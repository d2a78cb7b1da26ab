pub mod Faults
pub mod Takes
pub mod Late
pub mod LeftOver
pub mod Puts
