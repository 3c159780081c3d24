-- The laws that the proofs cite: one stretch, the stretches of a link, records that they are laid on, and power limits behind others.
pub mod Curved
pub mod Tested
pub mod StretchSteps
pub mod StretchesLaid
pub mod Pushed
pub mod Ended
pub mod RemainderSteps
