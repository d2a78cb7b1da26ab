pub mod Extras
pub mod Reading
pub mod ResidueText
pub mod Values
