-- `Chains::build` meets its contract: the instructions from pc on are linked.
-- Assumes nothing.
use Rattle.closure_edges.proofs.ChainLoops.{BuildingChains}
use Rattle.closure_edges.proofs.Chains.build.Given as goal

abbrev pub invariant-loop-pc : goal.invariant-loop-pc
invariant-loop-pc l = BuildingChains l.sheet.bytes.now l.sheet.sizes.code_count l.initial.chains l.chains l.pc
