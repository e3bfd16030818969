-- Sources that move a pixel once: their profile.
pub mod Profile
pub mod Promises
