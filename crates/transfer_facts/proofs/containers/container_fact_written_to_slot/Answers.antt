-- `transfer_facts::container_fact_written_to_slot` meets its contract: each opcode takes its rule; of any other the note gives the fact, or none. Assumes nothing.
use mathlib.Core.Path.{ap, ◌∙◌}
use native.Mathlib.Omega.{arith}
use Rattle.model.specs.Fact.{Fact}
use Rattle.model.specs.Tables.{cell_of}
use Rattle.model.specs.Opcode.{select}
use Rattle.model.specs.Transfer.{fact_for, iter_init, container_rule, container_fact}
use lib.Dec.{eqb}
use Rattle.fact_row.proofs.TargetCell.{targeted}
use Rattle.fact_row.proofs.Facts.{read}
use Rattle.fact_row.specs.Tracked.{facts_read}
use Rattle.transfer_facts.proofs.EffectRules.{by_note}
use Rattle.transfer_facts.proofs.containers.container_fact_written_to_slot.Goals as goal

pub returns-in-94 : goal.returns-in-94
unfolding container_rule select container_fact
returns-in-94 c slot =
    rw (c.in-94.is, ← c.requires.instruction_read.1)
    (targeted (eqb c.args.inst.a slot) _
    (c.iter_init_cell.ensures ∙ ap (λ (x : Fact). cell_of (iter_init x)) (read _ c.fact_for_tracked_source-in-94.ensures ∙ ap (fact_for c.args.row.now.slots.now (facts_read c.args.row.now)) c.from-in-94.ensures)))

pub returns-in_default : goal.returns-in_default
returns-in_default c slot =
    by_note c.args.sheet.now.bytes.now c.args.pc c.args.inst c.requires.instruction_read.1 c.args.row.now.slots.now (facts_read c.args.row.now) slot (λ q. omega arith) (λ q. omega arith) c.requires.other_opcode.1 c.requires.other_opcode.0 c.instruction_fact.ensures
