pub mod FirstParent
pub mod Handed
pub mod MarkLemmas
pub mod MarkedLemmas
