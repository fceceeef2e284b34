pub mod BadWords
pub mod CommandLine
pub mod NumberWords
pub mod OptionWords
pub mod Invocations
pub mod TypeNames
pub mod NearTypes
