pub mod Faults
pub mod Header
pub mod Item
pub mod Line
pub mod Listing
pub mod Arrivals
pub mod StreamFaults
pub mod Steps
