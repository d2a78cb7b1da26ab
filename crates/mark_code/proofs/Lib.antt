pub mod ExtrasLemmas
pub mod ListLemmas
pub mod MarkLemmas
pub mod PathsLemmas
pub mod RawLemmas
pub mod ResidueLemmas
pub mod WordLemmas
