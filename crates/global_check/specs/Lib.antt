pub mod Placed
pub mod Strings
pub mod Resolved
pub mod Image
pub mod InitialList
pub mod Filling
pub mod Globals
pub mod Laws
