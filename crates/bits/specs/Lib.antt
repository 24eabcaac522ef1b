-- The definitions that the contracts of this crate cite; the laws that callers cite stand in the files named `..Laws`.
pub mod Basics
pub mod BasicsLaws
pub mod ListLaws
pub mod SumLaws
pub mod FillLaws
pub mod Bits
pub mod BitsLaws
pub mod ReadLaws
pub mod BitNeeds
pub mod BitNeedsLaws
pub mod Refusals
pub mod Calls
pub mod CallsLaws
pub mod DifferenceLaws
pub mod SignedLaws
