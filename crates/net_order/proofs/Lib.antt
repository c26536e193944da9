pub mod FreedomLemmas
pub mod KeyLemmas
pub mod RegionLemmas
pub mod DealingLemmas
