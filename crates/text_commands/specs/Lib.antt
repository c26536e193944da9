pub mod Judging
pub mod Buffering
pub mod Making
pub mod Tracking
pub mod Placing
