pub mod ArpReplies
pub mod EchoDscp
pub mod Echoes
pub mod HostOnce
pub mod HostReplies
pub mod IcmpErrors
pub mod IcmpReplies
pub mod Ipv6Chains
mod Ipv6ChainsWorked
pub mod Ipv6Faults
mod Ipv6FaultsWorked
pub mod KindReplies
pub mod Marked
pub mod MessageEnds
pub mod Messages
pub mod MessagesOnce
pub mod Neighbours
pub mod ParameterProblems
pub mod RepliesOnce
pub mod ReplyEnds
mod SkippedWorked
pub mod Skips
pub mod TcpReplies
pub mod Tried
