pub mod Counting
pub mod Listed
pub mod Tally
pub mod FileReading
pub mod Observing
pub mod Seeing
