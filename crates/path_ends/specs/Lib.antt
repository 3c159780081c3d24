-- The definitions of the crate `path_ends`: the calls that make a path and close it.
pub mod New
pub mod Finish
