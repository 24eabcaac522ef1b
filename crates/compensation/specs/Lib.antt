-- The definitions that the contracts of this crate cite; the laws that callers cite stand in the files named `..Laws`.
pub mod Compensation
pub mod CompensationLaws
pub mod MovedForms
pub mod MovedFormsLaws
pub mod PartsLaws
pub mod InsideLaws
pub mod ErrorLaws
pub mod RowForms
pub mod RowFormsLaws
pub mod EarlyLaws
pub mod GapLaws
pub mod Error
