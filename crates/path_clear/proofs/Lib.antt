-- Laws of the definitions.
pub mod Dropping
pub mod Cut
pub mod Trimmed
pub mod WithoutLinks
pub mod Rising
pub mod StillSound
pub mod Twice
pub mod Gone
pub mod Each
pub mod Called
