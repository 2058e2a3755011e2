pub mod Spans
pub mod Rounds
pub mod Laws
pub mod Cases
