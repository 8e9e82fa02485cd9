pub mod Rto
pub mod Congestion
pub mod Scoreboard
pub mod Fields
