pub mod Accepts
pub mod Literal
pub mod Log
pub mod Marks
pub mod Model
pub mod Rows
