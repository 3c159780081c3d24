-- Definitions of the crate route.
pub mod Text
pub mod Fields
pub mod Codes
pub mod Filled
pub mod Forms
