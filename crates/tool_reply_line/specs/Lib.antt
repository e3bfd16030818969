-- The lines that tell a reply, and what writing them promises.
pub mod Promises
