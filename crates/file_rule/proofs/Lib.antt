pub mod OrderLemmas
pub mod RowLemmas
pub mod NewRow
pub mod RowsLoop
pub mod RowsStep
pub mod BackLemmas
pub mod BackStep
pub mod ParentLemmas
