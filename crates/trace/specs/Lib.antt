pub mod Big
pub mod Layout
pub mod Kinds
pub mod Answers
pub mod Survey
