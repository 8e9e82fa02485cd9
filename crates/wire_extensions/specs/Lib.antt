pub mod Chain
pub mod Extension
