pub mod Ipv6Changed
pub mod Ipv6Computed
pub mod Ipv6Emitted
pub mod Ipv6FragmentComputed
pub mod Ipv6FragmentEmitted
mod Ipv6FragmentViewed
pub mod Ipv6Normal
pub mod Ipv6ReadsBack
mod Ipv6Viewed
