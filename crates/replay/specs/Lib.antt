-- The definitions that the contracts of this crate cite; the laws that the proofs cite stand in the files named `..Laws`.
pub mod Layout
pub mod LayoutLaws
pub mod Compare
pub mod CompareLaws
pub mod Tally
