pub mod Register
pub mod Promise
pub mod Table
pub mod Role
