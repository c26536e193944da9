pub mod DemandLemmas
pub mod RouteLemmas
pub mod RoutingLemmas
pub mod RepeatingLemmas
pub mod CommandLaws
pub mod BeginningLemmas
