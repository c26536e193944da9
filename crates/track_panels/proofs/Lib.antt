pub mod ListLemmas
pub mod OpenTrackLemmas
pub mod LeftEdgeLemmas
pub mod NumberingLemmas
pub mod LawLemmas
