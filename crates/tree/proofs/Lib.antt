-- The laws that rest on the order in which a tree's bits stand; callers cite them too.
pub mod TreeLaws
pub mod WalkNeedsLaws
pub mod QueueLaws
pub mod FlagLaws
