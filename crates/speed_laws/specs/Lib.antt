-- The definitions of the crate `speed_laws`: the words of its laws.
pub mod Words
pub mod EitherOrder
