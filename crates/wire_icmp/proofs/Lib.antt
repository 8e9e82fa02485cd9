pub mod IcmpComputed
pub mod IcmpReadsBack
pub mod IcmpSums
mod IcmpViewed
pub mod Addresses
pub mod Emitted
pub mod NdiscComputed
pub mod Options
pub mod OptionsComputed
pub mod ReadsBack
pub use Rattle.wire_checksum.proofs.Parts
pub use Rattle.wire_checksum.proofs.WordLists
