pub mod HeldLemmas
pub mod PlaceLemmas
pub mod ReadLemmas
pub mod SlotLemmas
pub mod SureLemmas
pub mod Standing
pub mod ShelfLemmas
