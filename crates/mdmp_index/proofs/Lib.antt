pub mod Cutting
pub mod Found
pub mod Holding
pub mod Indexing
pub mod BySlots
pub mod Taken
