-- The definitions that the contracts of this crate cite; the laws that callers cite stand in the files named `..Laws`.
pub mod Codebook
pub mod CodebookLaws
pub mod Raster
pub mod RasterLaws
pub mod Mean
pub mod MeanLaws
pub mod CodebookCalls
pub mod CodebookCallsLaws
pub mod CodebookForms
pub mod CodebookFormsLaws
pub mod RaiseNeeds
pub mod RaiseNeedsLaws
