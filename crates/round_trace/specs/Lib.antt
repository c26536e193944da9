pub mod RoundLines
pub mod Traces
pub mod Counts
