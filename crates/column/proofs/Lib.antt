-- Laws of the definitions, for any element and any layout of records.
pub mod Filling
pub mod Moves
pub mod Gaps
pub mod Finite
pub mod ByEntry
pub mod Bridge
