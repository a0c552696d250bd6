pub mod Beyond
pub mod Fault
pub mod Loaded
