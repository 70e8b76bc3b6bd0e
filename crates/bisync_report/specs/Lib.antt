pub mod Status
pub mod Names
pub mod Parts
pub mod Lines
pub mod LastLine
pub mod Waiting
