pub mod Lists
pub mod Rows
pub mod Spreading
pub mod Listing
pub mod Sums
