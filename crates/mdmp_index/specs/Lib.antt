pub mod Cells
pub mod Index
pub mod IndexLaws
pub mod Reading
pub mod Slots
