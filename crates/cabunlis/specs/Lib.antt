-- The definitions that the contracts of this crate cite.
pub mod Host
pub mod HostLaws
