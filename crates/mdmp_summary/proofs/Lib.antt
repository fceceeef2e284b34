pub mod CheckingOn
mod ContextRows
pub mod Contexts
pub mod Counting
mod CrashRows
pub mod Entries
pub mod Folds
mod IdentityRows
pub mod InEntries
pub mod Left
pub mod LeftOn
pub mod NamesFetched
pub mod Over
pub mod Padding
pub mod Passing
pub mod Paying
pub mod RowsBehind
pub mod RowsTaken
pub mod RunTold
pub mod Skipped
pub mod Sought
mod SummaryRows
pub mod Told
pub mod Unused
pub mod Visited
mod WholeRows
