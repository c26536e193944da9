pub mod CostLemmas
pub mod FigureLemmas
pub mod SeatLemmas
