pub mod Sack
pub mod Same
