-- `sheet_questions::sheet_check::check_sheet` meets its contract. Assumes nothing.
use mathlib.Core.Path.{sym, ◌∙◌}
use Rattle.sheet_questions.specs.Check.{sized}
use Rattle.sheet_questions.proofs.FirstRefusal.{refused_1, refused_2, refused_3}
use Rattle.sheet.proofs.SizeLimits.{limited_by}
use Rattle.sheet.proofs.SheetLength.{laid_by, short}
use native.Mathlib.Omega.{arith}
use Rattle.sheet_questions.proofs.sheet_check.check_sheet.Goals as goal

pub returns-then-bytes-lt40-clause-answer : goal.returns-then-bytes-lt40-clause-answer
unfolding sized
returns-then-bytes-lt40-clause-answer c = refused_1 _ c.if-bytes-lt40.true

pub returns-then-not-within_limits-clause-answer : goal.returns-then-not-within_limits-clause-answer
unfolding sized
returns-then-not-within_limits-clause-answer c = refused_2 _ c.if-bytes-lt40.false (sym c.within_limits.ensures ∙ c.if-not-within_limits.true)

pub overflow_add-sizes : goal.overflow_add-sizes
overflow_add-sizes c = omega (arith, short (limited_by _ c.sizes_of-sizes.ensures (sym c.within_limits.ensures ∙ c.if-not-within_limits.false)) (laid_by _ c.sizes_of-sizes.ensures))

pub returns-then-bytes-sizes-clause-answer : goal.returns-then-bytes-sizes-clause-answer
unfolding sized
returns-then-bytes-sizes-clause-answer c =
    refused_3 _ c.if-bytes-lt40.false (sym c.within_limits.ensures ∙ c.if-not-within_limits.false)
    (λ e. omega (arith, (laid_by _ c.sizes_of-sizes.ensures).ends))

pub invariant_of-check_fields : goal.invariant_of-check_fields
invariant_of-check_fields c =
    record {
      measured = record {
        are = c.sizes_of-sizes.ensures;
        within = sym c.within_limits.ensures ∙ c.if-not-within_limits.false;
        long = omega (arith, (laid_by _ c.sizes_of-sizes.ensures).ends);
      };
    }
