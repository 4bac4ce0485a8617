pub mod Entries
pub mod Making
pub mod Routes
pub mod Tables
