pub mod Failures
pub mod Frames
pub mod Headers
pub mod Resummed
pub mod TcpKept
