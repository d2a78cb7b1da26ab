pub mod HandedRows
pub mod BlockLemmas
pub mod OverLemmas
pub mod PlainRows
pub mod PlainCommit
