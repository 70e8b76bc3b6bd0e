pub mod Words
pub mod Spelling
pub mod ListingText
pub mod FirstBadLine
pub mod Answers
pub mod Progress
pub mod Writing
