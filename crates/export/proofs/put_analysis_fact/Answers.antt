-- `put_analysis_fact` meets its contract. Assumes nothing.
use Rattle.export.proofs.Wrappers.{told}
use Rattle.export.proofs.put_analysis_fact.Goals as goal

pub returns : goal.returns
returns c = told c.args.out.now c.put_slot_fact.ensures c.fact_for_slot-fact.ensures
