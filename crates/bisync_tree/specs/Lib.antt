pub mod Side
pub mod Window
pub mod Tree
pub mod Rows
pub mod Same
pub mod Walk
pub mod Ranges
