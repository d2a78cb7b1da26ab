pub mod RuledCommit
pub mod Links
pub mod RuledChangeset
pub mod CommitFit
pub mod Views
pub mod Fits
pub mod Left
