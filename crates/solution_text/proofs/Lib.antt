pub mod RunLemmas
pub mod CoverLemmas
pub mod TokenLemmas
pub mod NumberLemmas
pub mod CentreLemmas
pub mod SegmentLemmas
pub mod RecordLemmas
pub mod LawLemmas
