pub mod Errors
pub mod Frames
pub mod HostFields
pub mod Interfaces
pub mod Messages
pub mod Mld
pub mod Neighbours
