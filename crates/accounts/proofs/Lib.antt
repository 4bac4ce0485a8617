pub mod Adjusted
pub mod Answered
pub mod Limited
pub mod Openings
pub mod Rows
