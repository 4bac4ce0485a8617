pub mod Checks
pub mod Views
pub mod Replies
pub mod Endings
pub mod Decisions
pub mod Makings
