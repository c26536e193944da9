pub mod HeldNets
pub mod PatternPrices
pub mod OnlyHistories
pub mod SeatSteps
pub mod RoundSteps
pub mod KeptPlans
