pub mod BadWordText
pub mod Commands
pub mod Program
pub mod Shown
pub mod Standing
pub mod Words
