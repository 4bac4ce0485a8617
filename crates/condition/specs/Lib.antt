pub mod Fulfilment
pub mod Practice
pub mod Sha256
