-- Laws of the errors that the listing prints.
pub mod PaddedLaws
pub mod ListedErrorLaws
