pub mod Datagram
pub mod Fragments
pub mod Ipv4Fragments
pub mod Ipv4Options
pub mod Partials
pub mod Ipv6Fragments
pub mod Parts
