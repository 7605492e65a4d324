pub mod Part
pub mod Frame
pub mod Table
