-- The definitions that the contracts of this crate cite; the laws stand in the files named `..Laws`.
pub mod Room
pub mod Calls
pub mod LongestLaws
pub mod BitsLaws
pub mod HouseLaws
pub mod RefusalLaws
pub mod RoomLaws
pub mod CallsLaws
