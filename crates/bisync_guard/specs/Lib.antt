pub mod CheckFiles
pub mod BasePaths
pub mod Order
pub mod Conditions
pub mod Tally
