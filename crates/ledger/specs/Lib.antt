pub mod Sums
pub mod Books
pub mod Parts
pub mod Views
pub mod Settling
