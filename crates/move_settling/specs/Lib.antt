-- What is claimed of runs of sources that move a pixel once.
pub mod Settles
