pub mod WaitingLaws
pub mod LineLaws
