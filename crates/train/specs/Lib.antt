-- The definitions of the crate `train`: a train's position, and the links where it stands.
pub mod Position
pub mod Locate
