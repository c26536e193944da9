pub mod TreeLemmas
pub mod WriteLemmas
pub mod BlockLemmas
