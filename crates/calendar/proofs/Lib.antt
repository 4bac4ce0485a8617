pub mod Numbers
mod Counting
mod Examples
mod Fields
mod MonthLaws
pub mod Timestamps
mod YearLaws
