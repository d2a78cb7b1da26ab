pub mod CountLemmas
pub mod LineLemmas
pub mod MarkedLemmas
pub mod NameLemmas
pub mod TakenLemmas
