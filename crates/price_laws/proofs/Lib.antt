pub mod EdgeSums
pub mod RankLemmas
pub mod PayLemmas
pub mod PriceLemmas
