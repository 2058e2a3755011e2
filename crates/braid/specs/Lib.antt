pub mod Tables
pub mod BraidMeaning
pub mod BraidLaws
pub mod Layers
pub mod Wires
