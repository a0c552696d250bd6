pub mod Number
pub mod Part
pub mod RunWord
pub mod ThreadRun
