-- `analyze_values` meets its contract.
-- Assumes nothing.
use mathlib.Core.Path.{refl}
use Rattle.stage_memory.specs.Lent.{table_in, scratch_in}
use Rattle.call_order.proofs.ClearedOutputs.{same_long, clean, still_clear, few_code, lengths_fit}
use Rattle.call_order.proofs.ConstantOutput.{constants_stored}
use Rattle.call_order.proofs.CallOrder.{values_promise}
use Rattle.call_values.proofs.analyze_values.Goals as goal

-- ---- the needs
pub analyze_stage-first-requires : goal.analyze_stage-first-requires
analyze_stage-first-requires c = record {
  lengths = lengths_fit c.args.indexed.now.accepted refl;
  scratch_zero = clean _ (scratch_in c.args.scratch.now) c.clear.ensures.zero c.requires.0 c.requires.1;
}

pub store_lengths-requires : goal.store_lengths-requires
store_lengths-requires c = record {
  room = few_code c.args.indexed.now.accepted;
  constants_stored = constants_stored _ c.args.indexed.now.accepted (table_in c.args.constants.now) _ _ _ c.analyze_stage-first.ensures.left;
}

pub analyze_stage-second-requires : goal.analyze_stage-second-requires
analyze_stage-second-requires c = record {
  lengths = lengths_fit c.args.indexed.now.accepted c.store_lengths.auto.lengths;
  scratch_zero =
      clean _ (scratch_in c.args.scratch.now) (still_clear (table_in c.args.constants.now) (scratch_in c.args.scratch.now) c.clear.ensures.zero _ c.analyze_stage-first.ensures.left)
      c.requires.0 c.requires.1;
}

pub returns-clause-left : goal.returns-clause-left
returns-clause-left c =
    values_promise _ c.args.indexed.now.accepted c.args.resources (table_in c.args.constants.now) (table_in c.args.index.now) (scratch_in c.args.scratch.now) _ _ _
    c.clear.ensures.zero c.charge_graph-begun.ensures c.analyze_stage-first.ensures.left c.store_lengths.ensures.stored c.analyze_stage-second.ensures.left
    (same_long c.analyze_stage-first.ensures.same.0) c.is_err-refused.ensures.value c.counts_unless.ensures c.clear_if.ensures.zero
