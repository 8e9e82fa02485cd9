pub mod Errors
pub mod Flows
pub mod Mapping
pub mod Nat
pub mod Reach
pub mod State
pub mod Table
