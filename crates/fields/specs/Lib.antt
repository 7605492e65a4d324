pub mod Number
pub mod Flag
pub mod Position
pub mod Layout
pub mod Check
pub mod Sound
pub mod Among
