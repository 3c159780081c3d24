-- What the operations of the Rust give.
pub mod Computed
