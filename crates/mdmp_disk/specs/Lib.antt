pub mod Disk
pub mod Input
pub mod Memory
pub mod System
