-- Laws of the definitions.
pub mod StretchesEnd
pub mod PathEnds
pub mod Columnwise
pub mod NewPoints
pub mod Assembled
pub mod Asked
pub mod Prepared
pub mod Extended
