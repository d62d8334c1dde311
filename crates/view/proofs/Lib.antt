pub mod Cells
pub mod Heads
pub mod Laws
pub mod Lengths
pub mod LinesPut
pub mod Narrow
pub mod OwnText
pub mod Wholes
