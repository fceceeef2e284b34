pub mod Given
pub mod Reading
