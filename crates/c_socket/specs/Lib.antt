pub mod Options
pub mod Segments
pub mod Calls
pub mod Application
pub mod Runs
pub mod Openings
pub mod Extends
