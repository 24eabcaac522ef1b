-- The definitions that the contracts of this crate cite.
pub mod Leaf
pub mod LeafLaws
pub mod Node
pub mod NodeLaws
pub mod Plan
pub mod PlanLaws
pub mod Sum
pub mod Vector
