pub mod Walls
pub mod Spans
pub mod Laws
