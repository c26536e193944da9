pub mod Rounds
pub mod GivenRoutes
pub mod Standing
pub mod Hands
pub mod Attempts
pub mod TurnWords
pub mod RunHistories
pub mod Apart
