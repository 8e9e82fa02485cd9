pub mod Delivered
pub mod Kept
pub mod Meeting
pub mod Saying
pub mod Delivery
pub mod Openings
pub mod Extending
