mod Clampings
mod Editing
mod Forwards
mod Fragmenting
mod NatCalls
mod Reassembling
mod RouteChoice
mod RouteLists
mod RouteTables
pub mod Tables
mod Translations
mod Within
