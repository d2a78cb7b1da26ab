pub mod SameRows
pub mod Sizes
pub mod Back
pub mod PlainCommit
pub mod PlainChangeset
pub mod Falls
pub mod Depths
