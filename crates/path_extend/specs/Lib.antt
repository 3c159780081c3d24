-- The definitions of the crate `path_extend`: links joined to a path's end.
pub mod Extend
pub mod Ready
