pub mod Played
pub mod HandRuns
