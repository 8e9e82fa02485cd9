pub mod Forward
pub mod Hints
pub mod IcmpProblem
pub mod Index
pub mod Route
pub mod Source
pub mod Table
