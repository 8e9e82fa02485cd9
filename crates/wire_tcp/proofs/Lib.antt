pub mod OptionItems
pub mod OptionLens
pub mod OptionsBack
mod Pairs
pub mod Sums
pub mod TcpChanged
pub mod TcpComputed
pub mod TcpCounted
pub mod TcpEmitted
pub mod TcpForms
pub mod TcpReadsBack
pub mod TcpResized
pub mod TcpTexts
mod TcpViewed
pub mod ValueInRange
