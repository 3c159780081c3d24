-- Laws of the crate messages.
pub mod SetPlaces
pub mod ClauseSteps
pub mod NoClause
