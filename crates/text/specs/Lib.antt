-- The definitions that the contracts of this crate cite; the laws that callers cite stand in the files named `..Laws`.
pub mod Text
pub mod ReadingForms
pub mod WritingForms
pub mod TextLaws
pub mod WritingFormsLaws
pub mod PutLaws
pub mod LengthLaws
pub mod OneTextLaws
pub mod SignedLaws
pub mod SignedFormsLaws
