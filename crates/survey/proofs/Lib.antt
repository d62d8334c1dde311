pub mod Filling
pub mod Tracks
pub mod Trials
