-- The definitions that the contracts of this crate cite; the laws that callers cite stand in the files named `..Laws`.
pub mod Search
pub mod Sum
pub mod SumLaws
pub mod CandidateForms
pub mod CandidateFormsLaws
pub mod ScanLaws
pub mod SearchCall
pub mod SearchCallLaws
pub mod SumCallLaws
pub mod SearchLaws
