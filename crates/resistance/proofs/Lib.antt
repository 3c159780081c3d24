-- Laws of the definitions.
pub mod Answered
pub mod Told
pub mod ListSteps
pub mod PointSteps
pub mod StrapSteps
pub mod WalkSteps
