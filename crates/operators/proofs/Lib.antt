pub mod Alike
pub mod WordBits
pub mod ByColumns
pub mod Counting
pub mod Passes
pub mod Rows
pub mod Told
