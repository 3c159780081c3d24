-- Laws of the definitions.
pub mod Texts
pub mod Hex
pub mod DigitSteps
pub mod Quotient
pub mod Patterns
pub mod Points
pub mod FaultLaws
pub mod Samples
