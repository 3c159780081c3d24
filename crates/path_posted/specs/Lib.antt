-- The definitions of the crate `path_posted`: the speed posted at an offset of a path.
pub mod Posted
