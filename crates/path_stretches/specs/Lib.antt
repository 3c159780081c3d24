-- The definitions of the crate `path_stretches`: what a link adds to the grades, curves and power limits of a path.
pub mod Stretches
pub mod Column
pub mod Becomes
pub mod Powers
pub mod Remainder
