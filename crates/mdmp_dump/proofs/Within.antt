-- A file that lays out a dump within limits gives no reason to refuse it.
pub mod Dump
pub mod Exception
pub mod Memory
pub mod Memory64
pub mod Module
pub mod Name
pub mod Part
pub mod Records
pub mod Runs
pub mod Steps
pub mod System
pub mod Thread
pub mod ThreadName
pub mod Unloaded
