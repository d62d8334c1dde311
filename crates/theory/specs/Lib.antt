pub mod Bases
pub mod Closures
pub mod Rows
pub mod Rules
pub mod Words
