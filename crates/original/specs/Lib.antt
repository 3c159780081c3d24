-- Definitions of the crate original.
pub mod Original
