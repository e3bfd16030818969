-- Laws of what is counted, settled and cleared, of the end of a source, of what reading passes, and of a check.
pub mod Tables
pub mod Finishing
pub mod Traces
pub mod Checks
