-- Laws of the definitions.
pub mod Clauses
pub mod Counts
pub mod InTurn
pub mod Lead
pub mod LinkPoints
pub mod Numbers
pub mod Ordered
pub mod PastCounts
pub mod ReadBack
pub mod Told
pub mod Tidied
pub mod Written
pub mod Lasts
pub mod WrittenSound
