-- The theorems on sources that move a pixel once.
pub mod Theorems
