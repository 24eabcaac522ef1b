-- The definitions that the contracts of this crate cite.
pub mod PlanLaws
pub mod ChoiceLaws
pub mod PlanAnswer
pub mod PlanClaim
pub mod PlanClaimLaws
pub mod PlannedForms
pub mod PlannedFormsLaws
pub mod GrowLaws
pub mod PlanNeeds
pub mod PlanNeedsLaws
pub mod SoundLaws
pub mod FrontNeedsLaws
pub mod FrontNeeds
