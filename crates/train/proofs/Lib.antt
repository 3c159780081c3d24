-- Laws of the definitions.
pub mod Behind
pub mod Fields
pub mod Moves
