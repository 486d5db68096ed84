-- `transfer_facts::effects::container_effect` meets its contract: MapIterNext by its range, any other by its target. Assumes nothing.
use mathlib.Core.Path.{ap, ◌∙◌}
use Prim.Native.Nat.{ℕ}
use native.Mathlib.Omega.{arith}
use Rattle.model.specs.Fact.{Fact}
use Rattle.model.specs.Tables.{cell_of}
use Rattle.model.specs.Transfer.{fact_for, iter_next}
use Rattle.fact_row.proofs.Facts.{read}
use Rattle.transfer_facts.proofs.EffectRules.{iterates_on, container_effect}
use Rattle.fact_row.specs.Tracked.{facts_read}
use Rattle.transfer_facts.proofs.effects.container_effect.Goals as goal

pub returns-in-95 : goal.returns-in-95
returns-in-95 c =
    iterates_on c.args.sheet.now.bytes.now c.args.pc c.args.row.now.slots.now (facts_read c.args.row.now) c.args.inst c.requires.instruction_read.1 c.in-95.is (c.iter_next_cell.ensures ∙ ap (λ (x : Fact). cell_of (iter_next x)) (read _ (c.fact_for_tracked_source.ensures ∙ ap (λ (n : ℕ). cell_of (fact_for c.args.row.now.slots.now (facts_read c.args.row.now) n)) c.from.ensures)))

pub returns-in_default : goal.returns-in_default
returns-in_default c =
    container_effect c.args.sheet.now.bytes.now c.args.pc c.args.row.now.slots.now (facts_read c.args.row.now) c.args.inst c.requires.instruction_read.1 (λ q. omega arith) c.requires.other_opcode c.container_fact_written_to_slot.ensures
