-- Laws of the crate route.
pub mod Places
pub mod Words
pub mod Codes
pub mod Filled
pub mod Tables
pub mod Forms
