pub mod Extent
pub mod Laws
pub mod Layout
pub mod Walk
