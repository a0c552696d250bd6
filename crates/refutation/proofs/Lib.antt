pub mod Checking
pub mod Clauses
pub mod Cut
pub mod Numbered
pub mod Open
pub mod Soundness
pub mod Steps
pub mod Tested
