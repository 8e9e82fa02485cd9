pub mod EthernetComputed
pub mod EthernetEmitted
pub mod EthernetNormal
mod EthernetViewed
