pub mod Actions
pub mod Calls
pub mod Cost
pub mod Enabled
pub mod Moves
pub mod Ranges
pub mod RestOfTurn
