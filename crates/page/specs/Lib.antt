pub mod Faults
pub mod Limits
pub mod Lines
pub mod Names
pub mod Pages
