pub mod Decimals
pub mod FirstPart
pub mod Joined
pub mod Longest
pub mod Runs
pub mod Spelled
