pub mod UdpChanged
pub mod UdpComputed
pub mod UdpReadsBack
pub mod UdpUpdated
mod UdpViewed
