pub mod StopLemmas
pub mod LeavingLemmas
pub mod EndLemmas
