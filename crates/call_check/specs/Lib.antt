pub mod Callee
pub mod Arguments
pub mod Call
