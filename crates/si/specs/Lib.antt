-- The definitions of the crate `si`: the constants of uc.rs.
pub mod Constants
