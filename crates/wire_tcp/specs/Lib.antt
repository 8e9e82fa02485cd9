pub mod Tcp
pub mod TcpFields
pub mod TcpFixed
pub mod TcpBorrow
pub mod TcpRepr
pub mod TcpReprText
pub mod TcpSegmentSize
pub mod TcpText
