pub mod LongestFold
