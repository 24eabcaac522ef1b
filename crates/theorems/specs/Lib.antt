-- The main theorems of this repository.
pub mod LongestFile
pub mod BookFiles
pub mod HousePrinted
pub mod Main
