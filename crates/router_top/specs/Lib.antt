pub mod Handing
pub mod Booking
pub mod Beginning
pub mod Tracing
pub mod Routing
pub mod Repeating
pub mod Trying
pub mod Orders
