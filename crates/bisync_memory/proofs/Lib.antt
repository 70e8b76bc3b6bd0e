pub mod BelowLemmas
pub mod FolderLemmas
pub mod MapLemmas
pub mod PrefixLemmas
pub mod RenameLemmas
mod HeldLemmas
mod NameLemmas
mod WakeLemmas
