-- Laws of the definitions.
pub mod Made
pub mod Closed
