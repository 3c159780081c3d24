-- The laws of the crate `speed_laws`.
pub mod Post
pub mod Changes
pub mod PointInFront
pub mod Merge
pub mod Lay
pub mod Append
pub mod Insert
pub mod Kept
pub mod EitherOrder
pub mod Clear
