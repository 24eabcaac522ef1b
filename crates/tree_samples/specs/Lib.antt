-- The definitions that the contracts of this crate cite; the laws that callers cite stand in the files named `..Laws`.
pub mod RowForms
pub mod RowFormsLaws
pub mod PlaceLaws
pub mod SubtreeForms
pub mod SubtreeFormsLaws
pub mod RebuildNeeds
pub mod RebuildNeedsLaws
pub mod ShownLaws
