pub mod Windows
pub mod Timestamps
pub mod Options
pub mod Fields
