pub mod Found
pub mod Soonest
