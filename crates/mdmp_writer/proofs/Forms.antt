-- Each kind of stream is written, and read again.
pub mod Exception
pub mod Memory
pub mod Memory64
pub mod MemoryInfo
pub mod Module
pub mod Raw
pub mod System
pub mod Thread
pub mod ThreadName
pub mod Unloaded
