pub mod Advancing
pub mod Bases
pub mod Filling
pub mod Laws
