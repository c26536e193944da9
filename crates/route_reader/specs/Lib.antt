pub mod Solutions
pub mod SolutionStore
pub mod SolutionText
pub mod Segments
pub mod Spots
pub mod Gathered
