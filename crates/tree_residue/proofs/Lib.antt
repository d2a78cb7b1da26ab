pub mod PathTests
pub mod Takes
pub mod RowsOf
pub mod Visits
pub mod PlainFiles
