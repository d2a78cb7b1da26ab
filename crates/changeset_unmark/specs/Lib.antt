pub mod Heads
pub mod Residues
pub mod Rows
pub mod Parents
pub mod Over
pub mod Named
pub mod Links
pub mod Drafts
