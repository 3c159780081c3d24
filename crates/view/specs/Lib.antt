-- Definitions of the crate view.
pub mod History
pub mod Holders
