pub mod Agree
pub mod Blocks
pub mod Equal
pub mod Found
mod FrameOnce
mod NatsOnce
pub mod Octets
pub mod Options
pub mod Parsed
mod RouterOnce
pub mod SackSearch
mod ShortOnce
