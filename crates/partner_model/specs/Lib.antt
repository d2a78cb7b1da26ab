pub mod Mark
pub mod Partner
pub mod Table
pub mod Measure
pub mod Given
pub mod Clash
pub mod Filled
