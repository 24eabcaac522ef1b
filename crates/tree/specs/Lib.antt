-- The definitions that the contracts of this crate cite; the laws that callers cite stand in the files named `..Laws`.
pub mod Blocks
pub mod BlocksLaws
pub mod Plan
pub mod RowsLaws
pub mod GeometryLaws
pub mod SumLaws
pub mod TreeBits
pub mod TreeLaws
pub mod NodeForms
pub mod WalkNeeds
pub mod WalkNeedsLaws
pub mod WalkReadLaws
pub mod Queue
pub mod ReadSoundLaws
