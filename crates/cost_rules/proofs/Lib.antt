pub mod RiseLemmas
