-- The definitions of the crate `book`: the book of the calls, what is claimed of it, demand 3, and lists of trims.
pub mod Book
pub mod Claims
pub mod Demand
pub mod LimitsEnd
pub mod Trims
