pub mod NetLemmas
pub mod PlacedLemmas
pub mod BufferLemmas
