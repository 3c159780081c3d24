-- Laws of the definitions that the proofs of the code cite.
pub mod Inserted
pub mod Followed
