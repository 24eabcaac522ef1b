-- The definitions that the contracts of this crate cite.
pub mod Mode
pub mod Macroblock
pub mod Limit
pub mod Choice
pub mod Reading
pub mod Slices
pub mod MacroblockNeeds
pub mod MotionForms
pub mod SampleNeeds
pub mod SampleNeedsLaws
pub mod MacroblockNeedsLaws
pub mod LayLaws
pub mod ChoiceLaws
pub mod MacroblockLaws
pub mod LayingNeeds
pub mod LimitLaws
pub mod SourceLaws
