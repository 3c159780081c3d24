-- The definitions of the crate `path_reindex`: other numbers for a path's links.
pub mod Reindex
pub mod Fours
