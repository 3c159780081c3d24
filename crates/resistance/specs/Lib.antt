-- The definitions of the crate `resistance`: a list searched alone, `Point`, `Strap` and a walk.
pub mod Listed
pub mod Point
pub mod Strap
pub mod Walk
