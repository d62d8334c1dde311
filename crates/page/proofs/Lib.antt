pub mod NameLists
pub mod Entries
pub mod Feet
pub mod LineOutcomes
pub mod Ones
pub mod Pieces
pub mod RuleLines
pub mod SetLines
