pub mod Group
pub mod Promise
