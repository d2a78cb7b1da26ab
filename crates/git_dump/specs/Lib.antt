pub mod Walks
pub mod Visits
pub mod Commits
