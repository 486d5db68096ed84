-- `Chains::link_each` meets its contract: the buckets passed have their link.
-- Assumes nothing.
use Rattle.closure_edges.proofs.ChainLoops.{LinkingChains}
use Rattle.closure_edges.proofs.Chains.link_each.Given as goal

abbrev pub invariant-loop-i : goal.invariant-loop-i
invariant-loop-i l = let b = l.fn.buckets in LinkingChains l.pc b.first b.count l.initial.self l.self l.i
