pub mod Messages
pub mod Wired
pub mod Sums
pub mod Gathering
pub mod Saying
pub mod Stepping
