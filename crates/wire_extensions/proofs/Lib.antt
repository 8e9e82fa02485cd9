pub mod Leads
pub mod Same
pub mod Steps
