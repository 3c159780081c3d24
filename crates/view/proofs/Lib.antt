-- Laws of the definitions.
pub mod HeldBy
pub mod Laid
pub mod Lays
pub mod Lowest
