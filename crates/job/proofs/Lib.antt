pub mod Bodies
pub mod Lined
pub mod Lines
pub mod Parts
pub mod Replying
pub mod Reporting
