-- The definitions of the crate `speed`: speed points, laying a limit, the drop at a beginning, and the posted speed.
pub mod Points
pub mod Column
pub mod Becomes
pub mod Insert
pub mod Clear
pub mod Posted
