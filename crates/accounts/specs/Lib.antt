pub mod Changes
pub mod Figures
pub mod Views
pub mod SetUps
pub mod Ways
