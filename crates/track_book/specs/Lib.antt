pub mod Names
pub mod Passes
pub mod SeatOptions
pub mod Stores
pub mod BlankStore
