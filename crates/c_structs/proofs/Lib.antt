pub mod Filled
pub mod TcpKept
pub mod TcpStamped
pub mod WrittenOnce
