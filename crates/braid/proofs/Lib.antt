pub mod Depths
pub mod Tabling
pub mod Rows
pub mod Making
pub mod Adding
pub mod Knowing
pub mod Settling
