pub mod Names
pub mod FateLemmas
pub mod FollowLemmas
pub mod RowLemmas
pub mod ModelLemmas
