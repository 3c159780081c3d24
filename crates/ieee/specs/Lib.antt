-- The definitions of the crate `ieee`: what a number is, and the smaller of two speeds.
pub mod Number
pub mod Speed
