-- Laws of the definitions that the proofs of the code and the crates above cite.
pub mod InsertSteps
pub mod PointColumn
pub mod Cleared
pub mod Reached
