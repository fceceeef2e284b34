pub mod Bytes
pub mod Filling
pub mod Held
pub mod Sending
pub mod Writing
