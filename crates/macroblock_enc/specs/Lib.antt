-- The definitions that the contracts of this crate cite.
pub mod LimitForms
pub mod LimitFormsLaws
pub mod WrittenNeeds
pub mod WrittenNeedsLaws
pub mod MbWrittenLaws
