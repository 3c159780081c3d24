-- Definitions of the crate messages.
pub mod Clauses
