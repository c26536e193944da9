pub mod ChainLemmas
pub mod StartLemmas
pub mod PieceLemmas
pub mod TextLemmas
