-- Laws of the definitions.
pub mod Loops
pub mod Conditions
pub mod Formed
pub mod Judging
pub mod Known
