pub mod Line
pub mod Put
pub mod Output
