-- The laws of the crate `view_laws`.
pub mod Named
pub mod Told
