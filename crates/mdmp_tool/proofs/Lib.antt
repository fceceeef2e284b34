pub mod BadLines
pub mod CopyEnds
pub mod InTurn
pub mod Loans
pub mod PlainRuns
pub mod SourceEnds
pub mod StandingCopy
pub mod Wording
