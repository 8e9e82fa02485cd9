pub mod Arp
pub mod ArpFields
pub mod ArpText
