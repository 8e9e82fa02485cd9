pub mod Ranges
pub mod Steps
pub mod Complete
pub mod EndSteps
pub mod Unique
pub mod Agreeing
pub mod Orders
pub mod Walk
pub mod Headers
pub mod Versions
pub mod Pieces
pub mod Cuts
pub mod Bits
pub mod Copied
pub mod Numbers
pub mod NumberedCuts
pub mod Ipv6Headers
pub mod Ipv6Cuts
pub mod Slots
pub mod TwoCalls
mod FragmentsWorked
mod OptionsWorked
pub mod Wholes
pub mod WholesIpv6
pub mod Collected
pub mod Made
pub mod Adding
