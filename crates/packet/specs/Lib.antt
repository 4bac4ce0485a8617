pub mod Values
pub mod Encoding
pub mod Fields
pub mod Readers
pub mod OneEncoding
