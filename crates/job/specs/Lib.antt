pub mod Closed
pub mod Faults
pub mod Jobs
pub mod Lists
pub mod Replies
pub mod Reports
