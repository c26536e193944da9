pub mod MarkLemmas
pub mod CutLemmas
pub mod ChainLemmas
pub mod WayLemmas
pub mod UsableLemmas
pub mod KeptLemmas
