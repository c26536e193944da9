pub mod BoundingLemmas
pub mod EndLemmas
