pub mod LocalName
pub mod LocalPlaces
pub mod LocalTable
pub mod NameTable
pub mod Number
pub mod Rising
