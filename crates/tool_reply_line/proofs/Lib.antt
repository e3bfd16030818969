-- Laws of a line that is written.
pub mod Lines
