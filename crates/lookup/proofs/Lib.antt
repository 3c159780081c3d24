-- Laws of the definitions: records in a column, question 1, and where a search ends.
pub mod Coeffs
pub mod SearchSteps
pub mod Place
