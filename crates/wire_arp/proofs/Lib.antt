pub mod ArpComputed
pub mod ArpEmitted
pub mod ArpNormal
pub mod ArpTexts
mod ArpNumbers
mod ArpViewed
