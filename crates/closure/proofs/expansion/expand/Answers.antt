-- `closure::expand` meets its contract: the chains are those of the graph.
-- Assumes nothing.
use Rattle.std.proofs.Common.{◌≤◌, refl, arith}
use Rattle.model.specs.Sheet.{local_slots}
use Rattle.sheet.proofs.SizeNames.{counted}
use Rattle.sheet.proofs.SizeLimits.{limited}
use Rattle.closure_edges.proofs.ChainEdges.{graph_told}
use Rattle.closure.proofs.expansion.expand.Goals as goal

pub expand_along-requires-2 : goal.expand_along-requires-2
expand_along-requires-2 c =
    let few : local_slots c.args.sheet.now.bytes.now ≤ 65535 = omega (arith, (counted c.args.sheet.now.measured.are).local_slots_is, (limited c.args.sheet.now.measured).local_slots_is) in
    (c.requires, graph_told c.args.sheet.now.bytes.now few _ _ refl c.build-chains.ensures.graph)
