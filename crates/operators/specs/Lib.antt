pub mod Columns
pub mod Counting
pub mod Entailment
pub mod Heeded
pub mod Plants
pub mod TableClosure
pub mod Trials
