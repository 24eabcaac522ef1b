-- The definitions that the contracts of this crate cite; the laws that callers cite stand in the files named `..Laws`.
pub mod BookFile
pub mod BookFileForms
pub mod BookFileFormsLaws
pub mod HeldLaws
pub mod FileText
pub mod OrderLaws
pub mod CallLaws
pub mod FileTextLaws
pub mod FileLength
pub mod FileLengthLaws
pub mod OneFileLaws
pub mod BookFileLaws
