mod Beside
mod Covers
mod Direct
mod EndSums
mod Found
mod Kept
pub mod Layouts
mod Left
mod Located
mod Made
mod OtherBytes
pub mod OtherPayloads
pub mod Payloads
mod PlacedSums
mod PlacesStay
mod ReadBack
mod Sent
mod ShortSums
mod Stays
mod StaysValid
mod Sums
mod Totals
