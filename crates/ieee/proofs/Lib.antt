-- Laws of binary64, each stated once and for either format where it can be.
pub mod Order
pub mod Same
pub mod Sizes
pub mod Speed
pub mod Round
pub mod Sum
pub mod OrderKey
pub mod Finite
