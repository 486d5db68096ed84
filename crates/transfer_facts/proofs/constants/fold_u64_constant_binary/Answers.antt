-- `transfer_facts::fold_u64_constant_binary` meets its contract: by the kinds of the two cells. Assumes nothing.
use mathlib.Core.Path.{◌≡◌, ap}
use Rattle.model.specs.Fact.{unknown, kind, value}
use Rattle.model.specs.Tables.{cell_of}
use Rattle.model.specs.Transfer.{fold}
use Rattle.fact_row.specs.Tracked.{facts_read}
use Rattle.transfer_facts.proofs.ConstantFacts.{first_other, second_other, both_numbers}
use Rattle.transfer_facts.proofs.constants.fold_u64_constant_binary.Goals.{in_default-via-in-2+in_default, in_default-via-in_default}
use Rattle.transfer_facts.proofs.constants.fold_u64_constant_binary.Goals as goal

pub returns-in-Some : goal.returns-in-Some
unfolding cell_of kind value
returns-in-Some g c f h =
    ap cell_of
    (both_numbers f c.args.inst c.args.row.now.slots.now (facts_read c.args.row.now) c.from.ensures c.from-2.ensures
    c.fact_for_tracked_source-left.ensures c.fact_for_tracked_source-right.ensures c.in-2-eq2.is-0 c.in-2-eq2.is-1 (h _ _ _ c.in-Some.ensures))

pub returns-in-None : goal.returns-in-None
unfolding cell_of kind value
returns-in-None g c f h =
    ap cell_of
    (both_numbers f c.args.inst c.args.row.now.slots.now (facts_read c.args.row.now) c.from.ensures c.from-2.ensures
    c.fact_for_tracked_source-left.ensures c.fact_for_tracked_source-right.ensures c.in-2-eq2.is-0 c.in-2-eq2.is-1 (h _ _ _ c.in-None.ensures))

pub returns-in_default : goal.returns-in_default
unfolding cell_of kind value
returns-in_default g c f h =
    ap cell_of
    (elim c.in_default.branch as (λ w. unknown ≡ fold f c.args.inst c.args.row.now.slots.now (facts_read c.args.row.now)) [
      | in_default-via-in-2+in_default w ↦ second_other f c.args.inst c.args.row.now.slots.now (facts_read c.args.row.now) c.from.ensures c.from-2.ensures
          c.fact_for_tracked_source-left.ensures c.fact_for_tracked_source-right.ensures w.in_default.is-0 w.in_default.is-1.1
      | in_default-via-in_default w ↦ first_other f c.args.inst c.args.row.now.slots.now (facts_read c.args.row.now) c.from.ensures c.from-2.ensures
          c.fact_for_tracked_source-left.ensures c.fact_for_tracked_source-right.ensures w.in_default.is-0.1
    ])
