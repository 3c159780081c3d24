-- The definitions of the crate `answer`: questions, refusals and answers.
pub mod Answers
