pub mod RowFacts
pub mod AccountFacts
pub mod Again
pub mod Kept
pub mod Leaves
pub mod RunLaw
