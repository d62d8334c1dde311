pub mod Faults
pub mod Outputs
pub mod Puts
pub mod Records
