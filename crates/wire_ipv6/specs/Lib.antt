pub mod Ipv6
pub mod Ipv6Fields
pub mod Ipv6Fragment
pub mod Ipv6FragmentFields
pub mod Ipv6Borrow
pub mod Ipv6Text
