pub mod Cards
pub mod Flat
pub mod Proof
