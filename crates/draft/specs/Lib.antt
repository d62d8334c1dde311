pub mod Advances
pub mod Calls
pub mod Faults
pub mod Fills
pub mod Laws
