mod AccountSums
mod RuleSteps
mod Places
mod HandLemmas
mod PassLemmas
mod OrderLemmas
mod TakeLemmas
pub mod DealtLemmas
mod DealLemmas
mod RowLemmas
mod NewHands
mod HandMaking
mod EmptyLemmas
mod GatherLemmas
mod EndLemmas
pub mod HandLists
