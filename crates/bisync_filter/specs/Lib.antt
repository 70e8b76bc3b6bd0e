pub mod Trimming
pub mod Passing
pub mod Spelling
pub mod Digests
