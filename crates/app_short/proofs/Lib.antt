pub mod FlowKeys
pub mod Rejected
