-- Laws of the limits that a set, a link and link points lay.
pub mod Lowered
pub mod Applying
pub mod LayingLoop
pub mod LinkLimits
pub mod Few
pub mod Anew
pub mod Recalced
