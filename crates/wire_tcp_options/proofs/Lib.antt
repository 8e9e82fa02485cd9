pub mod FirstItems
pub mod Items
mod ItemsWorked
pub mod One
pub mod OptionLists
pub mod Places
pub mod Prefixes
pub mod Ranges
pub mod Summaries
pub mod Walks
