pub mod Prefixes
pub mod Holding
pub mod NumberSteps
pub mod RoleSteps
pub mod EntrySteps
pub mod EndSteps
pub mod Looking
pub mod Dealing
