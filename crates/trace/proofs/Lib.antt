pub mod Heads
pub mod Ways
pub mod Giving
pub mod Spelling
pub mod Counting
pub mod Surveying
