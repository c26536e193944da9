pub mod LibraryLemmas
pub mod PlacesLemmas
pub mod KindLemmas
pub mod ItemsLemmas
pub mod NetLemmas
pub mod GatheredLemmas
