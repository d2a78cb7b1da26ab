pub mod After
pub mod Returned
