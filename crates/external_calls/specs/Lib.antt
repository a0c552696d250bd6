pub mod Format
pub mod Laws
pub mod Pieces
pub mod Prototype
