pub mod Faults
pub mod Fields
pub mod Lefts
pub mod Meaning
pub mod Names
pub mod Queries
pub mod Reply
pub mod Rows
