-- The edges to one slot
pub mod FollowEdges
-- The loop of the closure
pub mod ExpandLoop
-- The whole closure
pub mod TrackedSlots
