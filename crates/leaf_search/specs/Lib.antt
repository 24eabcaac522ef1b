-- The definitions that the contracts of this crate cite.
pub mod InnerLaws
pub mod StagesNeeds
pub mod StagesLaws
pub mod LevelLeafNeedsLaws
pub mod LevelLeafNeeds
