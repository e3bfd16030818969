-- Flags says that no block of a list that passes clears a flag; RoundTrip and Sources that what is written reads back; Kept that blocks keep the ranges; Told that
-- the flag as code tells it says the same. Cases and Examples are worked examples.
pub mod Flags
pub mod Cases
pub mod Examples
pub mod RoundTrip
pub mod Sources
pub mod Kept
pub mod Told
