-- The claim about a picture and the room that always suffices for one; the laws stand in the files named `..Laws`.
pub mod PictureClaim
pub mod PictureRoom
pub mod PictureClaimLaws
pub mod PictureRoomLaws
