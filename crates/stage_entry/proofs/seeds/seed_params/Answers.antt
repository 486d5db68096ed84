-- `stage_entry::seeds::seed_params` meets its contract: so far all charges were covered. Assumes nothing.
use Prim.Native.Nat.{ℕ}
use mathlib.Core.Path.{refl, ap, ◌∙◌}
use lib.ListN.{length}
use Rattle.model.specs.Sheet.{param_count}
use Rattle.model.specs.Parameters.{seed_params}
use Rattle.budget.specs.Outcome.{leaves_of}
use Rattle.sheet.proofs.SizeLimits.{limited}
use Rattle.sheet.proofs.SizeNames.{counted}
use Rattle.fact_row.proofs.FactSet.{same_again}
use Rattle.stage_entry.specs.First.{row_laid, zero_row}
use Rattle.stage_entry.proofs.Refusals.{refused_not_covered, leaves_again}
use Rattle.stage_entry.proofs.ParamSeeds.{seeded_none, seeded_more, seeded_refused, seeded_all}
use native.Mathlib.Omega.{arith}
use Rattle.stage_entry.proofs.seeds.seed_params.Goals as goal

pub loop-i-init : goal.loop-i-init
loop-i-init c = seeded_none _ _ _ _ _ _

pub overflow_add-slot : goal.overflow_add-slot
overflow_add-slot c = let l = limited c.args.sheet.now.measured in omega arith

pub returns-in_err-left : goal.returns-in_err-left
returns-in_err-left c = record {
  same = same_again c.loop-i.invariant.same c.seed_param.ensures.same;
  leaves = λ facts l.
      leaves_again c.from_residual.result c.in_err-left.was c.from_residual.ensures.1
      (seeded_refused _ _ _ _ _ _ c.loop-i.invariant c.loop-i-test.true _ c.loop-i.invariant.same.slots c.seed_param.ensures.leaves (refused_not_covered c.in_err-left.was) (counted c.args.sheet.now.measured.are).param_count_is facts l
      ∙ (let a = c.args in
      ap (λ (n : ℕ). leaves_of row_laid (zero_row (length a.row.now.slots.now)) (seed_params a.sheet.now.bytes.now a.row.now.slots.now n (param_count a.sheet.now.bytes.now) facts a.resources)) c.from-begin.ensures));
}

pub overflow_add-passed : goal.overflow_add-passed
overflow_add-passed c = let l = limited c.args.sheet.now.measured in omega arith

pub loop-i-preserved : goal.loop-i-preserved
loop-i-preserved c =
    seeded_more _ _ _ _ _ _ c.loop-i.invariant c.loop-i-test.true _ c.loop-i.invariant.same.slots c.seed_param.ensures.leaves refl c.in_ok-left.was
    (c.from-passed.ensures ∙ c.param_width.ensures) (omega arith) c.seed_param.ensures.same

pub returns : goal.returns
returns c = record {
  same = c.loop-i.invariant.same;
  leaves = λ facts l.
      seeded_all _ _ _ _ _ _ c.loop-i.invariant c.loop-i-test.false (counted c.args.sheet.now.measured.are).param_count_is facts l ∙ (let a = c.args in
      ap (λ (n : ℕ). leaves_of row_laid (zero_row (length a.row.now.slots.now)) (seed_params a.sheet.now.bytes.now a.row.now.slots.now n (param_count a.sheet.now.bytes.now) facts a.resources)) c.from-begin.ensures);
}
