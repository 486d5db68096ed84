-- `stage_entry::seeds::seed_params` meets its contract: so far all charges were covered. Assumes nothing.
use Rattle.stage_entry.proofs.ParamSeeds.{Seeded}
use Rattle.stage_entry.proofs.seeds.seed_params.Given as goal

abbrev pub invariant-loop-i : goal.invariant-loop-i
invariant-loop-i l = Seeded l.sheet.bytes.now l.initial.row.slots.now l.begin l.initial.left l.initial.row l.count l.row l.left l.passed l.i
