pub mod Fault
pub mod Tray
