pub mod Before
pub mod Audited
pub mod Seen
