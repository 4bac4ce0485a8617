pub mod Accounts
pub mod Numbers
pub mod Opened
pub mod Rules
pub mod Runs
pub mod Verdicts
