-- The closure without a budget: its charges are few, and what a call's closures give is what it gives. Then what a loader is told.
pub mod EdgeBound
pub mod Unlimited
pub mod TrackedCounts
pub mod RoomAnswers
