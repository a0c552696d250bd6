pub mod Choices
pub mod Equality
pub mod Turns
