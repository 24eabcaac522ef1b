-- The definitions that the contracts of this crate cite; the laws that callers cite stand in the files named `..Laws`.
pub mod Grid
pub mod GridLaws
pub mod PutLaws
pub mod Neighbours
pub mod NeighboursLaws
pub mod CacheNeeds
pub mod CacheNeedsLaws
