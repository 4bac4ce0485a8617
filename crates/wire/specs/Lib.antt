pub mod Codes
pub mod Reading
pub mod Short
pub mod Words
pub mod Writing
