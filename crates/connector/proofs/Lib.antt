mod Handed
pub mod Outcomes
pub mod Due
pub mod Endings
pub mod OnePair
pub mod Deciding
