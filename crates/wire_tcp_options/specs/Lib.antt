pub mod TcpItems
pub mod TcpOption
pub mod TcpOptionBorrow
pub mod TcpPlace
pub mod TcpSeq
pub mod TcpSummary
pub mod TcpWalk
