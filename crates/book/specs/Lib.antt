pub mod Reading
pub mod Book
pub mod Runs
pub mod Lines
pub mod LineLaws
pub mod Replays
