-- The rows that are proved together (R135), and what it means that a row is right.
pub mod Rows
pub mod Right
