pub mod Operation
pub mod Judge
pub mod Exact
pub mod Place
pub mod Found
pub mod Passing
