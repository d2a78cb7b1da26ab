pub mod MarkLemmas
pub mod CopyLemmas
