-- The definitions that the contract of this crate cites, and the law that it holds.
pub mod PictureTrip
pub mod PictureTripLaws
