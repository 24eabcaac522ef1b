-- The definitions that the contracts of this crate cite; the laws that callers cite stand in the files named `..Laws`.
pub mod Run
pub mod RunLaws
pub mod Plane
pub mod Refusals
pub mod Calls
pub mod PlaneNeeds
pub mod RefusalsLaws
pub mod SlicesLaws
pub mod PlaneLaws
pub mod LimitLaws
pub mod AloneLaws
