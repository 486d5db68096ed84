-- `store_lengths` meets its contract.
-- Assumes nothing.
use mathlib.Core.Path.{refl, sym, ◌∙◌}
use mathlib.Core.Bool.{false≢true}
use lib.Seq.{length-take-le}
use Rattle.sheet.proofs.SizeNames.{counted}
use Rattle.sheet.proofs.SizeLimits.{limited}
use Rattle.model.specs.Call.{table}
use Rattle.call_order.proofs.ConstantTables.{Fronts, fronts, stored_there, lengthened}
use Rattle.call_order.proofs.tables.store_lengths.Goals.{Else-is_err}
use Rattle.call_order.proofs.tables.store_lengths.Goals as goal

-- ---- the needs
pub returns-then-is_err : goal.returns-then-is_err
returns-then-is_err c =
    let refused = sym c.is_err.ensures.value ∙ c.if-is_err.true in
    record { stored = λ goes a st. absurd (false≢true (sym goes ∙ refused)); kept = λ same. refl }

there : (c : Else-is_err) → Fronts c.args.sheet.now.sizes.code_count c.args.constant.tracked (table c.args.slots.now c.args.present.now c.args.kinds.now c.args.values.now)
there c =
    fronts (stored_there c.args.before c.requires.constants_stored c.is_err.ensures.value c.if-is_err.false).1 (counted c.args.sheet.now.measured.are).code_count_is refl
    (limited c.args.sheet.now.measured).code_count_is

pub overflow_mul-cells : goal.overflow_mul-cells
overflow_mul-cells c = record { fits = (there (goal.at.overflow_mul-cells c).Else-is_err).cells_fit }

pub slice_bounds-constants-end-2 : goal.slice_bounds-constants-end-2
slice_bounds-constants-end-2 c = sym (length-take-le _ _ (there (goal.at.slice_bounds-constants-end-2 c).Else-is_err).present_fits)

pub slice_bounds-constants-end-3 : goal.slice_bounds-constants-end-3
slice_bounds-constants-end-3 c = sym (length-take-le _ _ (there (goal.at.slice_bounds-constants-end-3 c).Else-is_err).kinds_fit)

pub slice_bounds-constants-end-4 : goal.slice_bounds-constants-end-4
slice_bounds-constants-end-4 c = sym (length-take-le _ _ (there (goal.at.slice_bounds-constants-end-4 c).Else-is_err).values_fit)

pub invariant_of-constants : goal.invariant_of-constants
invariant_of-constants c =
    let t = there (goal.at.invariant_of-constants c).Else-is_err in
    record { ascending = t.ascending; kinds_long = t.kinds_long; values_long = t.values_long }

pub length_facts-requires : goal.length_facts-requires
length_facts-requires c = (length-take-le _ _ (there (goal.at.length_facts-requires c).Else-is_err).present_fits, c.requires.room)

pub returns-clause-stored : goal.returns-clause-stored
returns-clause-stored c goes a st = lengthened st (counted c.args.sheet.now.measured.are).code_count_is refl c.length_facts.ensures.stored c.length_facts.ensures.read
