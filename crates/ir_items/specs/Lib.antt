pub mod Item
pub mod Laws
pub mod Phrase
pub mod Segment
pub mod Statement
