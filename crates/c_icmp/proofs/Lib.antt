pub mod AnsweredOnce
mod ErrorReplies
mod Exact
mod FrameReplies
mod HostAnswers
pub mod Ndiscs
pub mod Packets
