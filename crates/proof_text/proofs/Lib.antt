pub mod Accepted
pub mod Again
pub mod Distinct
pub mod Spelled
pub mod Taken
pub mod Words
pub mod Written
