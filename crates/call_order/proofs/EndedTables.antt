-- The tables of an ended run: how long they are, and the fact of a slot before an instruction.
-- Assumes nothing.
use mathlib.Core.Path.{◌≡◌, refl, sym, ap, ◌∙◌}
use mathlib.Core.List.{List, map}
use mathlib.Core.Option.{Option, none, some}
use Prim.Native.Nat.{ℕ, suc, ◌+◌, ◌*◌, ◌≤◌, ◌<◌}
use native.Mathlib.Nat.{mul-le-mul_right}
use native.Mathlib.Omega.{arith}
use lib.ListN.{length, get_or, drop, get_or-map}
use lib.Seq.{get_or-take, get_or-drop}
use Rattle.model.specs.Fact.{Fact, unknown, kind, value, Row}
use Rattle.model.specs.Run.{row_at}
use Rattle.model.specs.Lookup.{place}
use Rattle.model.specs.Tables.{present_byte, row_cells, cells, cell_of, table_slices}
use Rattle.model.specs.Analyses.{row_fact}
use Rattle.finality.proofs.Cells.{length_present, present_at, cells_part}
use Rattle.fact_row.proofs.Facts.{fact_cell}
use Rattle.fact_row.proofs.Places.{fact_placed, fact_untracked, place_inside}
use Rattle.call_order.specs.Lengths.{EndedRows}

-- "Kind 0 Unknown .., value 0"
pub unknown_is : fact_cell 0 0 ≡ cell_of unknown
unfolding cell_of kind value
unknown_is = refl

-- a place of a row lies in a table with s numbers to a row
pub table_inside : (slots table : List ℕ) {n : ℕ} → length table ≡ n * length slots → (pc slot : ℕ) {j : ℕ} → pc < n → place slots slot ≡ some j
    → pc * length slots + j < length table
table_inside slots table {n} long pc slot {j} h p =
    let l : suc pc * length slots ≤ n * length slots = mul-le-mul_right (length slots) h in
    let k : j < length slots = place_inside slots slot p in
    omega (arith, long)

module _ {slots : List ℕ} {rows : List (Option Row)} {present kinds values : List ℕ} (e : EndedRows slots rows (table_slices present kinds values)) where
  pub rows_long : length rows ≡ length present
  rows_long = sym (length_present rows) ∙ ap length (sym e.lie.present_are)

  -- the cell at place j of a present row
  cell_at : (f : Fact → ℕ) → f unknown ≡ 0 → (pc j : ℕ) (r : Row) → pc < length present → j < length slots → row_at rows pc ≡ some r
      → get_or (cells f (length slots) rows) (pc * length slots + j) 0 ≡ f (get_or r j unknown)
  unfolding row_cells
  cell_at f z pc j r h k q =
      sym (get_or-take (length slots) (drop (pc * length slots) (cells f (length slots) rows)) j 0 k ∙ get_or-drop (pc * length slots) (cells f (length slots) rows) j 0)
      ∙ ap (λ (l : List ℕ). get_or l j 0) (cells_part f (length slots) rows pc e.lie.sized (omega (arith, rows_long)) ∙ ap (row_cells f (length slots)) q)
      ∙ ap (λ (d : ℕ). get_or (map f r) j d) (sym z)
      ∙ get_or-map f r j unknown

  module _ (pc slot : ℕ) where
    pub absent_fact : get_or present pc 0 ≡ 0 → fact_cell 0 0 ≡ cell_of (row_fact slots (row_at rows pc) slot)
    unfolding present_byte row_fact
    absent_fact h = go (row_at rows pc) (sym (present_at rows pc) ∙ ap (λ (l : List ℕ). get_or l pc 0) (sym e.lie.present_are) ∙ h)
      where
        go : (o : Option Row) → present_byte o ≡ 0 → fact_cell 0 0 ≡ cell_of (row_fact slots o slot)
        go none p = unknown_is
        go (some row) p = let z : ◌≡◌ {A = ℕ} 0 1 = sym p in absurd (omega arith)

    pub untracked_fact : place slots slot ≡ none → fact_cell 0 0 ≡ cell_of (row_fact slots (row_at rows pc) slot)
    unfolding row_fact
    untracked_fact h = go (row_at rows pc)
      where
        go : (o : Option Row) → fact_cell 0 0 ≡ cell_of (row_fact slots o slot)
        go none = unknown_is
        go (some row) = rw (fact_untracked slots row slot h) unknown_is

    pub tracked_fact_lem : pc < length present → (get_or present pc 0 ≡ 0 → ⊥) → {j : ℕ} → place slots slot ≡ some j
        → fact_cell (get_or kinds (pc * length slots + j) 0) (get_or values (pc * length slots + j) 0) ≡ cell_of (row_fact slots (row_at rows pc) slot)
    unfolding present_byte row_fact cell_of kind value
    tracked_fact_lem h there {j} p = go (row_at rows pc) refl
      where
        go : (o : Option Row) → row_at rows pc ≡ o → fact_cell (get_or kinds (pc * length slots + j) 0) (get_or values (pc * length slots + j) 0) ≡ cell_of (row_fact slots o slot)
        go none q = absurd (there (ap (λ (l : List ℕ). get_or l pc 0) e.lie.present_are ∙ present_at rows pc ∙ ap present_byte q))
        go (some row) q =
            rw (
              fact_placed slots row slot e.ascending (e.lie.sized pc row q) p,
              e.lie.kinds_are,
              e.lie.values_are,
              cell_at kind refl pc j row h (place_inside slots slot p) q,
              cell_at value refl pc j row h (place_inside slots slot p) q,
            )
