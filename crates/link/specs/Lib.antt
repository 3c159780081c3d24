-- The definitions of the crate `link`: the train, conditions and sets, the link table, and questions 4 to 7.
pub mod Lists
pub mod Train
pub mod Condition
pub mod Table
pub mod Questions
