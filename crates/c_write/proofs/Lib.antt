mod ArpKept
pub mod Exact
pub mod ExactFrames
mod Filled
pub mod Framed
mod Headed
mod Ipv4Words
mod Ipv6Put
mod Ipv6Words
mod Numbered
mod Spelled
mod TcpFronts
mod TcpKept
mod TcpResummed
mod TcpStamped
mod UdpKept
