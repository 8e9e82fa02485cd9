pub mod Udp
pub mod UdpFields
pub mod UdpBorrow
pub mod UdpText
