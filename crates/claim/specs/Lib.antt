-- The definitions that the contracts of this crate cite; the laws that callers cite stand in the files named `..Laws`.
pub mod Claim
pub mod SumLaws
pub mod AcceptedLaws
pub mod OutputLaws
pub mod ClaimLaws
pub mod RoundTrip
pub mod RoundTripLaws
