mod Formats
mod Names
mod Reading
