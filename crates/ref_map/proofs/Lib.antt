pub mod PieceLemmas
pub mod PhaseLemmas
pub mod PartLemmas
pub mod EntryLemmas
pub mod TextLemmas
