pub mod Digits
pub mod Growing
pub mod Joins
pub mod Puts
pub mod Rooms
pub mod Sequels
pub mod Told
pub mod Writing
