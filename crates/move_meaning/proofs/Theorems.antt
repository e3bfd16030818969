-- Moving says what a program of the profile is as a tree, and what evaluating a cell gives; Runs what holds of runs; Exits, Found and InProfile that a source in the
-- profile has such a program. Examples are worked examples, one list with one claim.
pub mod Examples
pub mod Moving
pub mod Runs
pub mod Exits
pub mod Found
pub mod InProfile
