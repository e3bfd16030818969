-- Theorems on runs of a program on a grid: what a cell reads, the ranges, the reach and its places. Digits finds coordinates by division, Cutting is on products
-- cut at 257.
pub mod Locality
pub mod Ranges
pub mod Covering
pub mod PlacesLaws
pub mod PlacesMany
pub mod Digits
pub mod Cutting
