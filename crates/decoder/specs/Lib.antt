pub mod Limits
pub mod Inputs
pub mod Decoding
pub mod Area
