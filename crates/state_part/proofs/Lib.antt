pub mod StripLemmas
pub mod CountLemmas
pub mod SectionLemmas
pub mod HeadLemmas
pub mod PairLemmas
pub mod SortLemmas
pub mod DumpLemmas
