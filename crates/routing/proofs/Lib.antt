pub mod Fitting
pub mod Given
pub mod LookUp
pub mod Matching
