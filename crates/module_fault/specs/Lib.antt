pub mod Cause
pub mod Fault
pub mod Laws
