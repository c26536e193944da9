pub mod Pieces
pub mod Panels
pub mod Numberings
pub mod Orders
pub mod OpenTracks
