-- `closure_edges::destinations::buckets_of` meets its contract.
-- Assumes nothing.
use native.Mathlib.Omega.{arith}
use Rattle.closure_edges.proofs.BucketOrder.{in_order, some_buckets, no_buckets}
use Rattle.closure_edges.proofs.destinations.buckets_of.Goals as goal

pub overflow_sub-result : goal.overflow_sub-result
overflow_sub-result c =
    in_order _ _ c.dependence_of.ensures c.min-end.ensures c.if-a-end.true c.bucket_of-first.ensures.0 c.bucket_of-last.ensures.0

pub returns-then-a-end : goal.returns-then-a-end
returns-then-a-end c =
    let rule = c.dependence_of.ensures in
    let end = c.min-end.ensures in
    let first = c.bucket_of-first.ensures.0 in
    let up = in_order _ _ rule end c.if-a-end.true first c.bucket_of-last.ensures.0 in
    (some_buckets _ _ rule end c.if-a-end.true first c.bucket_of-last.ensures.0, omega (arith, up, c.bucket_of-last.ensures.1))

pub returns : goal.returns
returns c = (no_buckets _ _ c.dependence_of.ensures c.min-end.ensures c.if-a-end.false, omega arith)
