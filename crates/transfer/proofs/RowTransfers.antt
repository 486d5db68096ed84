-- IndexCheck, and a whole row through an instruction.
-- Assumes nothing.
use mathlib.Core.Path.{◌≡◌, refl, subst}
use mathlib.Core.Bool.{Bool, true, false}
use mathlib.Core.List.{List}
use Prim.Native.Nat.{ℕ, ◌<◌}
use lib.ListN.{length, get_or}
use Rattle.model.specs.Fact.{Fact, Row}
use Rattle.model.specs.Sheet.{instruction}
use Rattle.model.specs.Tables.{row_slices, RowLies, cell_of}
use Rattle.model.specs.Transfer.{each_cell, replaced, constant_cell, constant_transfer, index_cell, index_transfer, container_cell, container_transfer, checked_from, index_checked, transfer_row}
use Rattle.model.specs.declared.FactCell.{FactCell}
use Rattle.model.specs.declared.Instruction.{Instruction}
use Rattle.model.specs.declared.AnalysisKind.{AnalysisKind}
use Rattle.model.specs.declared.AnalysisKind.TheVariants.{Constant, IndexCheck, Container}
use Rattle.sheet.specs.declared.Sizes.{Sizes}
use Rattle.fact_row.specs.Changed.{cells_in, FactSet}
use Rattle.fact_row.specs.declared.row.FactRow.{FactRow}
use Rattle.fact_row.proofs.FactSet.{put_lies}
use Rattle.transfer_facts.specs.Effect.{effect_cell, fact_written, effect_of}
use Rattle.transfer_facts.specs.declared.Effect.{Effect}
use Rattle.transfer_facts.proofs.EffectRules.{effect_cells}
use Rattle.transfer_written.specs.Ranges.{holds_slot, SlotsAre}
use Rattle.transfer_written.specs.Spans.{slot_written}
use Rattle.transfer_written.specs.declared.Written.{Written}
use Rattle.transfer.specs.Wrote.{Wrote}
use Rattle.transfer.proofs.SlotWrites.{wrote_row}
use Rattle.transfer.specs.Analysis.{checks_index}

-- ---- IndexCheck

module _ (inst : Instruction) (fact : Fact) {test : Bool} (old : FactRow) (row : Row) (l : RowLies row (cells_in old)) where
  pub index_checked_lem : {t : Bool} → t ≡ test → t ≡ true → {slot : ℕ} → slot ≡ inst.a → {cell : FactCell} → cell ≡ cell_of fact
      → {new : FactRow} → FactSet slot cell old new → RowLies (index_checked test inst old.slots.now fact row) (cells_in new)
  unfolding index_checked
  index_checked_lem p q s e set_there = rw (← p, q, ← s) (put_lies l set_there fact e)

  pub not_checked : {t : Bool} → t ≡ test → t ≡ false → RowLies (index_checked test inst old.slots.now fact row) (cells_in old)
  unfolding index_checked
  not_checked p q = rw (← p, q) l

-- ---- a row through an instruction

module _ (sheet : List ℕ) (pc : ℕ) (slots : List ℕ) (row : Row) where
  written_row : AnalysisKind → Row
  written_row which = each_cell (λ slot f. replaced (slot_written which sheet pc slots row slot) f (fact_written which sheet pc slots row slot)) slots row

  transfer_is : (which : AnalysisKind) (length_fact : ℕ → Fact)
      → index_checked (checks_index which (instruction sheet pc).op) (instruction sheet pc) slots (checked_from (length_fact pc)) (written_row which) ≡ transfer_row which sheet slots length_fact pc row
  unfolding written_row slot_written fact_written checks_index index_checked constant_cell constant_transfer index_cell index_transfer container_cell container_transfer transfer_row
  transfer_is Constant f = refl
  transfer_is IndexCheck f = refl
  transfer_is Container f = refl

  pub transferred : (which : AnalysisKind) (fact : Fact) (inst : Instruction) → inst ≡ instruction sheet pc → {kinds values copied-kinds copied-values : List ℕ}
      → RowLies row (row_slices kinds values) → copied-kinds ≡ kinds → copied-values ≡ values → length kinds ≡ length slots → length values ≡ length slots
      → ((k : ℕ) → k < length slots → get_or slots k 0 < 65536) → (w : Written) (sizes : Sizes) → SlotsAre w sheet sizes (slot_written which sheet pc slots row)
      → (effect : Effect) → effect ≡ effect_of which sheet pc slots row
      → (mid new : FactRow) → mid.slots.now ≡ slots → Wrote slots (holds_slot w sheet) (effect_cell effect slots row) (row_slices copied-kinds copied-values) (cells_in mid)
      → ((r : Row) → RowLies r (cells_in mid) → RowLies (index_checked (checks_index which inst.op) inst mid.slots.now (checked_from fact) r) (cells_in new))
      → {kinds' values' : List ℕ} → kinds' ≡ new.kinds.now → values' ≡ new.values.now → RowLies (transfer_row which sheet slots (λ p. fact) pc row) (row_slices kinds' values')
  unfolding written_row
  transferred which fact inst e l ck cv nk nv below w sizes n effect is mid new same wr check k v =
      rw (k, v)
      (subst (λ (r : Row). RowLies r (cells_in new)) (transfer_is which (λ p. fact))
      (rw (e, same) at (check (written_row which)
      (wrote_row slots _ _ _ _ (rw ck nk) (rw cv nv) wr below row (slot_written which sheet pc slots row) (fact_written which sheet pc slots row) (rw (ck, cv) l) n.slots
      (λ slot. rw is (effect_cells sheet pc slots row slot which))))))
