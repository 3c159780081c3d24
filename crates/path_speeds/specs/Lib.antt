-- The definitions of the crate `path_speeds`: the limits that a link lays on a path, and `recalc_speeds`.
pub mod Limits
pub mod Recalc
