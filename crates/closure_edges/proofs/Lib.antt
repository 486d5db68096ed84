-- The edges of an instruction as rows
pub mod EdgeRows
-- What the instructions' charges are
pub mod EdgeCharges
-- The edges to one slot
pub mod EdgesToSlot
-- The laws of this crate. For other crates to cite: ChainEdges.
pub mod BucketOrder
pub mod ChainLoops
pub mod ChainEdges
