pub mod Numbers
pub mod Forms
pub mod Meanings
pub mod Sorting
pub mod Values
pub mod Orders
pub mod Kept
