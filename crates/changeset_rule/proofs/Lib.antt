pub mod ParentLemmas
pub mod KnownParents
pub mod RowViews
pub mod ViewLemmas
pub mod RuledLemmas
pub mod FitsLemmas
