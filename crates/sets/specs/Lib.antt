pub mod Fault
pub mod Set
