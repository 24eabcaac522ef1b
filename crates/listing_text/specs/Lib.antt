-- The definitions that the contracts of this crate cite; the laws that callers cite stand in the files named `..Laws`.
pub mod Cut
pub mod CutLaws
pub mod FilesLaws
pub mod LengthLaws
pub mod LineForms
pub mod LineFormsLaws
pub mod Listed
pub mod ListedLaws
pub mod Listing
pub mod RoomLaws
