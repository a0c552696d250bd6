pub mod Error
pub mod Keyword
pub mod Laws
pub mod Line
pub mod Progress
pub mod Read
pub mod Watch
pub mod Words
