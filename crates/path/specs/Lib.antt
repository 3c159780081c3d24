-- The definitions of the crate `path`: the path's record and columns, answers, and questions 1 to 3.
pub mod Records
pub mod Answers
pub mod Sound
