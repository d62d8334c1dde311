pub mod Cursors
pub mod Faults
pub mod Grammar
pub mod Names
pub mod Reading
pub mod Tables
