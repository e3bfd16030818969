-- One step under marks, and one of the rows of a band: what the functions promise. `Stepping` has the step's contract, `Rows` the band's, `Turns` those of their parts.
pub mod Promises
