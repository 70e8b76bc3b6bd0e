pub mod PassingLaws
pub mod SpellingLaws
pub mod ReadingLaws
pub mod DigestLaws
pub mod DigitLaws
pub mod FirstMatchLaws
