pub mod BatchedHistories
pub mod SecondTries
pub mod Seats
pub mod Rounds
pub mod Made
