-- `analyze` meets its contract: questions 1 to 6, the sheet's index, then the three analyses.
-- Assumes nothing.
use mathlib.Core.Path.{refl}
use Rattle.stage_memory.specs.Lent.{lent_in}
use Rattle.sheet_index.proofs.IndexFound.{few_layouts, firsts_found, classes_found}
use Rattle.sheet_questions.specs.Check.{sized}
use Rattle.sheet_questions.proofs.AdmissionTests.{admitted_lengths, turned_away}
use Rattle.call_order.proofs.ClearedOutputs.{few_code}
use Rattle.call_order.proofs.CallOrder.{demanded}
use Rattle.verifier.proofs.analyze.Goals as goal

-- ---- the needs
pub index_sheet-requires : goal.index_sheet-requires
unfolding sized
index_sheet-requires c =
    let asks = rw (← c.in-Ok.ensures.bytes) at (admitted_lengths _ _ _ c.in-Ok.ensures.answer refl) in
    (asks.0, few_code asks.0, few_layouts asks.0)

pub invariant_of-indexed : goal.invariant_of-indexed
unfolding sized
invariant_of-indexed c =
    let asks = rw (← c.in-Ok.ensures.bytes) at (admitted_lengths _ _ _ c.in-Ok.ensures.answer refl) in
    record {
      accepted = asks.0;
      held = firsts_found asks.0 _ (few_code asks.0) c.index_sheet.ensures.0;
      classed = classes_found asks.0 _ (few_layouts asks.0) c.index_sheet.ensures.1;
    }

pub analyze_indexed-requires : goal.analyze_indexed-requires
unfolding sized
analyze_indexed-requires c =
    let asks = rw (← c.in-Ok.ensures.bytes) at (admitted_lengths _ _ _ c.in-Ok.ensures.answer refl) in (asks.1, asks.2)

-- ---- what is left

pub returns-in-Err-clause-call : goal.returns-in-Err-clause-call
unfolding sized
returns-in-Err-clause-call c = turned_away _ (lent_in c.args.constants.now c.args.index.now c.args.containers.now c.args.scratch.now) c.in-Err.ensures.answer c.args.resources refl

pub returns-in-Err-clause-demand : goal.returns-in-Err-clause-demand
unfolding sized
returns-in-Err-clause-demand c =
    demanded _ c.args.resources (lent_in c.args.constants.now c.args.index.now c.args.containers.now c.args.scratch.now) _ (lent_in c.args.constants.now c.args.index.now c.args.containers.now c.args.scratch.now) (turned_away _ (lent_in c.args.constants.now c.args.index.now c.args.containers.now c.args.scratch.now) c.in-Err.ensures.answer c.args.resources refl)

pub returns-clause-call : goal.returns-clause-call
returns-clause-call c = rw c.in-Ok.ensures.bytes at c.analyze_indexed.ensures.call

pub returns-clause-demand : goal.returns-clause-demand
returns-clause-demand c = demanded _ c.args.resources (lent_in c.args.constants.now c.args.index.now c.args.containers.now c.args.scratch.now) _ _ (rw c.in-Ok.ensures.bytes at c.analyze_indexed.ensures.call)
