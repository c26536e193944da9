pub mod SortedLemmas
pub mod NetLemmas
pub mod RoutedSums
