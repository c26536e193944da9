pub mod Lines
pub mod Stops
pub mod Commands
pub mod Leaving
pub mod Said
pub mod Opening
pub mod Ends
pub mod Statuses
