pub mod Tile
pub mod Joins
pub mod Waits
pub mod Topology
pub mod Spanning
pub mod Children
