pub mod Refusals
pub mod Pairs
pub mod Messages
pub mod Outcomes
pub mod Calls
pub mod Turns
pub mod Sheet
pub mod Runs
