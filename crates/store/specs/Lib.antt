pub mod Refusals
pub mod Totals
pub mod Sums
pub mod Meaning
pub mod FlatView
pub mod FlatMeaning
pub mod Inputs
