pub mod Cells
pub mod Delta
