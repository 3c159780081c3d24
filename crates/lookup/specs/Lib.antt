-- The definitions of the crate `lookup`: grade and curve records, and the search of a list of them.
pub mod Coeff
pub mod Search
pub mod CalcIdx
