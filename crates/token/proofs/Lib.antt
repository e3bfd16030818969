-- Laws that belong to no one function.
pub mod Numbers
pub mod Heads
pub mod Extents
pub mod Literals
pub mod Words
pub mod Blanks
pub mod Lexemes
pub mod Scans
pub mod Levels
