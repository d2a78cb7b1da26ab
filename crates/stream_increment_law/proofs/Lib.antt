pub mod Arrives
pub mod Held
pub mod Revisions
pub mod Commits
pub mod Accepted
