pub mod Feeds
pub mod Decimals
