pub mod Freedoms
pub mod Orders
pub mod Surveys
