pub mod Shared
pub mod Promise
pub mod Meeting
