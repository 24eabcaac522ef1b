-- The definitions that the contracts of this crate cite; the laws that callers cite stand in the files named `..Laws`.
pub mod Leaf
pub mod DistanceLaws
pub mod LeafBits
pub mod LeafBitsLaws
pub mod LeafLaws
pub mod LeafCall
pub mod LeafForms
pub mod PagesLaws
pub mod SignedLaws
pub mod LeafNeeds
pub mod AgreeLaws
pub mod Margin
pub mod MarginLaws
pub mod LentNeeds
pub mod LentNeedsLaws
pub mod LentReadLaws
