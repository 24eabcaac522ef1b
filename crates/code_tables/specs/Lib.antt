-- The definitions that the contracts of this crate cite; the laws that callers cite stand in the files named `..Laws`.
pub mod Codes
pub mod CodesLaws
pub mod CodeReadLaws
pub mod RangeForms
pub mod RangeFormsLaws
pub mod CodeNeeds
pub mod Calls
pub mod CallsLaws
