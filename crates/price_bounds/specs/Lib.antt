pub mod Costs
pub mod Figures
pub mod Priced
pub mod Seats
pub mod Texts
