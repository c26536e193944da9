pub mod Polarity
pub mod Signals
pub mod SignalsBelow
pub mod BothLists
pub mod PolarPlans
