pub mod CapturedOf
mod CutArp
mod CutBytes
mod CutChain
pub mod CutFrame
mod CutIpv4
mod CutIpv6
mod CutMessage
pub mod CutOf
mod CutPorts
mod CutTcp
mod CutUdp
mod CutWorked
mod FieldsOf
mod FrameOptions
pub mod InFrame
mod Messages
mod ParsedLine
mod RejectedApart
mod Steps
mod PlainFrame
mod StoredChain
mod StoredFrame
mod StoredHeaders
mod StoredParts
mod TcpUsual
mod Transports
mod Untagged
