pub mod Rising
pub mod Wiring
