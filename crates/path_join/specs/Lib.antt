-- The definitions of the crate `path_join`: what listed links add to a path.
pub mod Listed
pub mod Joined
pub mod ByKind
pub mod Sums
pub mod Fit
pub mod Walked
