-- A file lays out one dump, and one record of each kind at a place.
pub mod Dump
pub mod Exception
pub mod Memory
pub mod Memory64
pub mod Module
pub mod Name
pub mod Part
pub mod Records
pub mod System
pub mod Thread
pub mod ThreadName
pub mod Unloaded
