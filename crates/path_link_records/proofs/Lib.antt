-- Laws of the definitions.
pub mod LinkParts
