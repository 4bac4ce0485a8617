pub mod Executed
pub mod OpenLists
