pub mod Block
pub mod Input
pub mod Items
pub mod Lines
pub mod Outcome
pub mod Replay
pub mod Report
pub mod Turns
