pub mod Pair
pub mod Promise
pub mod Reasons
pub mod Examples
pub mod Uncapped
