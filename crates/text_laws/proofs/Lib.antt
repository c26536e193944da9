pub mod EarlyLemmas
pub mod GrammarLemmas
pub mod DesignTextLemmas
pub mod WholeLemmas
pub mod LibraryGrammarLemmas
pub mod LibraryTextLemmas
pub mod TakingLemmas
pub mod LibraryItemLemmas
mod SolutionTextLemmas
