pub mod Layers
pub mod Makings
pub mod OverLaws
pub mod Positive
pub mod Priced
pub mod Stacks
