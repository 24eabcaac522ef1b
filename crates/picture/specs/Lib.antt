-- The definitions that the contracts of this crate cite; the laws that callers cite stand in the files named `..Laws`.
pub mod Picture
pub mod Refusals
pub mod Calls
pub mod PictureNeeds
pub mod RefusalsLaws
pub mod PictureLaws
