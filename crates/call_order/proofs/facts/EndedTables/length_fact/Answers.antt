-- `EndedTables::length_fact` meets its contract. Assumes nothing.
use mathlib.Core.Path.{sym, ap, ◌∙◌}
use Prim.Native.Nat.{ℕ}
use native.Mathlib.Omega.{arith}
use Rattle.model.specs.Run.{row_at}
use Rattle.model.specs.Tables.{cell_of, fact_in}
use Rattle.model.specs.Analyses.{row_fact}
use Rattle.model.specs.declared.Instruction.{Instruction}
use Rattle.fact_row.proofs.CheckedLengths.{checked_small}
use Rattle.fact_row.proofs.Facts.{value_of}
use Rattle.call_order.proofs.EndedTables.{unknown_is}
use Rattle.call_order.proofs.LengthTables.{checked_of, check_fact, other_fact}
use Rattle.call_order.proofs.facts.EndedTables.length_fact.Goals as goal

pub returns-then-inst-eq-INDEX_CHECK-clause-fact : goal.returns-then-inst-eq-INDEX_CHECK-clause-fact
returns-then-inst-eq-INDEX_CHECK-clause-fact c =
    λ rows e.
    let read = c.instruction-inst.ensures in
    let slot = c.from.ensures ∙ ap (λ (i : Instruction). i.b) read in
    checked_of _ (c.row_fact.ensures rows e ∙ ap (λ (b : ℕ). cell_of (row_fact c.args.self.now.slots.now (row_at rows c.args.pc) b)) slot) c.checked_cell.ensures
    ∙ ap cell_of (check_fact _ c.args.self.now.slots.now rows c.args.pc (sym (ap (λ (i : Instruction). i.op) read) ∙ c.if-inst-eq-INDEX_CHECK.true))

pub returns-then-inst-eq-INDEX_CHECK-clause-short : goal.returns-then-inst-eq-INDEX_CHECK-clause-short
returns-then-inst-eq-INDEX_CHECK-clause-short c = omega (arith, value_of _ c.checked_cell.ensures, checked_small (fact_in c.row_fact.result))

pub returns-else-inst-eq-INDEX_CHECK-clause-fact : goal.returns-else-inst-eq-INDEX_CHECK-clause-fact
returns-else-inst-eq-INDEX_CHECK-clause-fact c =
    λ rows e.
    let read = c.instruction-inst.ensures in
    unknown_is ∙ ap cell_of (other_fact _ c.args.self.now.slots.now rows c.args.pc (λ o. c.if-inst-eq-INDEX_CHECK.false (ap (λ (i : Instruction). i.op) read ∙ o)))
