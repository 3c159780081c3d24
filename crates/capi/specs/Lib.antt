-- The definitions of the crate `capi`: codes of directions and train types.
pub mod Codes
