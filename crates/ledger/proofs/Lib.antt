pub mod RowLaws
pub mod AccountLaws
pub mod Stays
pub mod Same
