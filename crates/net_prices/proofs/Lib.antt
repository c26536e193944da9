pub mod FoldLemmas
pub mod ArcLemmas
pub mod PricedLemmas
pub mod PaymentLemmas
