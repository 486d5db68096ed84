-- `Chains::link_each` meets its contract: the buckets passed have their link.
-- Assumes nothing.
use mathlib.Core.Path.{refl}
use Rattle.closure_edges.proofs.ChainLoops.{linking_none, linking_more}
use Rattle.closure_edges.proofs.Chains.link_each.Goals as goal

pub loop-i-init : goal.loop-i-init
loop-i-init c = record { linked = linking_none _ _ _ _; same_heads = refl; same_links = refl }

pub loop-i-preserved : goal.loop-i-preserved
loop-i-preserved c =
    let i = c.loop-i.invariant in
    record { linked = linking_more i.linked c.loop-i-test.true; same_heads = i.same_heads; same_links = i.same_links }
