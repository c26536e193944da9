pub mod EarlyFaults
pub mod EarlyLibraryFaults
pub mod EarlySolutionFaults
pub mod LibraryItems
