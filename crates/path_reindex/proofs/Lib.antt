-- Laws of the definitions.
pub mod Fours
pub mod Renumbered
