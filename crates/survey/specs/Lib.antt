pub mod States
pub mod Calls
pub mod Tracks
pub mod Fills
