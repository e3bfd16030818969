-- The theorems on a band's call.
pub mod Standing
pub mod InGrid
mod BandCases
