pub mod Ethernet
pub mod EthernetFields
pub mod EthernetBorrow
