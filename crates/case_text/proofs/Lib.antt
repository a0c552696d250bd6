pub mod Accepted
pub mod Shapes
pub mod Spelled
pub mod Steps
