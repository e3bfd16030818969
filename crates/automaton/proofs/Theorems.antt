-- Theorems, and what is defined for them alone: a reader of them has to believe Blocks and Chain (what calls one after the other give), and the statements QuietAgrees,
-- ChainAgrees and ResumedAgrees. Worked has examples.
pub mod Quiet
pub mod GridLaws
pub mod Going
pub mod Blocks
pub mod Pause
pub mod Chain
pub mod BandLaws
pub mod RowLaws
mod Worked
