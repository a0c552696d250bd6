pub mod Bytes
pub mod Extent
pub mod Gap
pub mod Laws
pub mod Lexer
pub mod Place
pub mod Token
