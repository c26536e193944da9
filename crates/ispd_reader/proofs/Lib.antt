pub mod HeaderLemmas
pub mod NetLemmas
