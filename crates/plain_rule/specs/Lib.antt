pub mod CommitHead
