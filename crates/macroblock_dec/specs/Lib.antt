-- The definitions that the contracts of this crate cite; the laws that callers cite stand in the files named `..Laws`.
pub mod FindingNeeds
pub mod ReadNeeds
pub mod FindingNeedsLaws
pub mod ReadNeedsLaws
pub mod ReadCallLaws
