pub mod Limited
pub mod Ranges
