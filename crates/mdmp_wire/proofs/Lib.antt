pub mod DigitsLemmas
pub mod EscapeLemmas
pub mod PlainRuns
pub mod Rows
pub mod Slots
pub mod Utf16
