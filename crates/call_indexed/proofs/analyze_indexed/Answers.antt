-- `analyze_indexed` meets its contract: the three analyses one after the other.
-- Assumes nothing.
use mathlib.Core.Path.{refl}
use Rattle.stage_memory.specs.Lent.{table_in, scratch_in}
use Rattle.call_order.proofs.ClearedOutputs.{same_long, clean, lengths_fit}
use Rattle.call_order.proofs.CallOrder.{values_clear, call_promise}
use Rattle.call_indexed.proofs.analyze_indexed.Goals as goal

-- ---- the needs
pub analyze_values-values-requires : goal.analyze_values-values-requires
analyze_values-values-requires c = c.requires

pub analyze_stage-third-requires : goal.analyze_stage-third-requires
analyze_stage-third-requires c =
    record {
      lengths = lengths_fit c.args.indexed.now.accepted refl;
      scratch_zero =
          clean _ (scratch_in c.args.scratch.now) (values_clear (table_in c.args.constants.now) (table_in c.args.index.now) (scratch_in c.args.scratch.now) _ c.analyze_values-values.ensures.left)
          c.requires.0 c.requires.1;
    }

pub returns-clause-call : goal.returns-clause-call
returns-clause-call c =
    call_promise _ c.args.indexed.now.accepted c.args.resources (table_in c.args.constants.now) (table_in c.args.index.now) (table_in c.args.containers.now) (scratch_in c.args.scratch.now) c.requires.0 c.requires.1 _
    c.analyze_values-values.ensures.left c.analyze_stage-third.ensures.left (same_long c.analyze_values-values.ensures.same.0) (same_long c.analyze_values-values.ensures.same.1)
    c.is_err-refused.ensures.value c.clear_if.ensures.zero c.clear_if-2.ensures.zero c.answer_of.ensures
