pub mod Entry
pub mod Laws
pub mod Line
pub mod Reading
pub mod Text
