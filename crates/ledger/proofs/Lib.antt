pub mod Lines
pub mod Answering
pub mod Standing
pub mod Working
pub mod Running
pub mod Ruling
pub mod Fixing
pub mod AddingUp
