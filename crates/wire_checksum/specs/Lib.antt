pub mod PseudoHeader
pub mod WordSum
