-- The definitions of the crate `decimal`: numbers out of text.
pub mod Digits
pub mod Decimal
pub mod Known
pub mod Number
pub mod Fault
