pub mod Icmp
pub mod IcmpFields
pub mod IcmpBorrow
pub mod IcmpText
pub mod Ndisc
pub mod NdOption
pub mod NdiscText
