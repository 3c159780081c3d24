-- The definitions of the crate `path_clear`: a drop of links, and a list of drops.
pub mod Clear
pub mod Trims
pub mod TrimsByPoints
