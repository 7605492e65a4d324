pub mod Filed
pub mod Promise
pub mod Final
