pub mod Ledger
pub mod Runs
pub mod Rules
pub mod Calls
pub mod Promise
pub mod Fixed
