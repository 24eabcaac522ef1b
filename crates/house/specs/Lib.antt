-- The definitions that the contracts of this crate cite; the laws that callers cite stand in the files named `..Laws`.
pub mod House
pub mod TrieForms
pub mod HouseLaws
pub mod FillLaws
pub mod Fill
