-- `transfer_facts::load_const_cell` meets its contract: past the table, of another kind, or an integer. Assumes nothing.
use mathlib.Core.Path.{ap, ◌∙◌}
use Rattle.model.specs.Fact.{kind, value}
use lib.IntN.{ℤ}
use Rattle.model.specs.Transfer.{integer}
use Rattle.model.specs.Tables.{cell_of}
use Rattle.transfer_facts.proofs.ConstantFacts.{signed_bits, const_past, const_other, const_loaded}
use Rattle.transfer_facts.proofs.constants.load_const_cell.Goals.{else-i-sheet-via-then-i-sheet+else-constant_kind-eq-INTEGER, else-i-sheet-via-else-i-sheet}
use Rattle.transfer_facts.proofs.constants.load_const_cell.Goals as goal

pub returns-then-constant_kind-eq-INTEGER : goal.returns-then-constant_kind-eq-INTEGER
returns-then-constant_kind-eq-INTEGER c =
    c.integer_cell.ensures
    ∙ ap (λ (z : ℤ). cell_of (integer z)) (signed_bits c.constant_bits.result c.cast_signed.result c.cast_signed.type_inv c.cast_signed.ensures)
    ∙ ap cell_of (const_loaded c.args.sheet.now.measured _ c.if-i-sheet.true c.constant_kind.ensures c.if-constant_kind-eq-INTEGER.true c.constant_bits.ensures)

pub returns-else-i-sheet : goal.returns-else-i-sheet
unfolding cell_of kind value
returns-else-i-sheet c =
    ap cell_of
    (elim c.else-i-sheet.branch [
      | else-i-sheet-via-then-i-sheet+else-constant_kind-eq-INTEGER w ↦ const_other c.args.sheet.now.measured c.args.i w.if-i-sheet.true w.constant_kind.ensures w.if-constant_kind-eq-INTEGER.false
      | else-i-sheet-via-else-i-sheet w ↦ const_past c.args.sheet.now.measured c.args.i w.if-i-sheet.false
    ])
