-- One band's call. Read in this order.
pub mod BandCall
pub mod Promises
