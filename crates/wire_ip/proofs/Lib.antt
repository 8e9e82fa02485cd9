pub mod IpComputed
pub mod IpNormal
pub mod IpPayload
pub mod IpReadsBack
