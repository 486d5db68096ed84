-- A row that lies in memory.
-- Assumes nothing.
use mathlib.Core.Path.{◌≡◌, refl, sym, ap, ◌∙◌}
use mathlib.Core.List.{List, ◌∷◌, map}
use Prim.Native.Nat.{ℕ, zero, suc}
use lib.ListN.{length, replicate}
use Rattle.model.specs.Tables.{RowLies, RowSlices, row_slices}
use Rattle.model.specs.Fact.{unknown, kind, value, Row}
use Rattle.model.specs.Analyses.{unknown_row}
use Rattle.fact_row.specs.Changed.{cells_in, SameRow, RowZero}
use Rattle.fact_row.specs.declared.row.FactRow.{FactRow}
use Rattle.stage_entry.specs.First.{row_laid, zero_row}

-- ---- a row in memory

map_replicate : {A B : Type 0} (f : A → B) (n : ℕ) (x : A) → map f (replicate n x) ≡ replicate n (f x)
map_replicate f zero x = refl
map_replicate f (suc n) x = ap (λ r. f x ∷ r) (map_replicate f n x)

-- a blank row is a row of Unknown
pub blank_lies : {row : FactRow} → RowZero row → RowLies (unknown_row row.slots.now) (cells_in row)
unfolding unknown_row kind value
blank_lies {row} b = record {
  kinds_are = b.kinds_zero ∙ sym (map_replicate kind (length row.slots.now) unknown);
  values_are = b.values_zero ∙ sym (map_replicate value (length row.slots.now) unknown);
}

-- ---- memory and row

pub row_laid_lem : {facts : Row} {kinds values : List ℕ} → RowLies facts (row_slices kinds values) → row_slices kinds values ≡ row_laid facts
row_laid_lem l = rw (l.kinds_are, l.values_are)

pub lies_of : {facts : Row} {kinds values : List ℕ} → row_slices kinds values ≡ row_laid facts → RowLies facts (row_slices kinds values)
lies_of e = record { kinds_are = ap (λ (m : RowSlices). m.kinds) e; values_are = ap (λ (m : RowSlices). m.values) e }

-- a row that is cleared is a zero for each slot
pub blanked : {old new : FactRow} → SameRow old new → RowZero new → cells_in new ≡ zero_row (length old.slots.now)
blanked same z = rw (z.kinds_zero, z.values_zero, same.slots)
