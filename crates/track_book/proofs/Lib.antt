pub mod PassSteps
pub mod Dealing
