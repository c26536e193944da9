pub mod PlacingLemmas
pub mod BufferingLemmas
pub mod JudgingLemmas
pub mod MakingLemmas
pub mod TrackingLemmas
