-- The lines of an analysis in order are those of the listing, and its table holds them.
-- Assumes nothing.
use mathlib.Core.Path.{◌≡◌, refl, sym, ap, ap₂, ◌∙◌}
use mathlib.Core.List.{List, [], ◌∷◌, ◌++◌, append_assoc, append-nil}
use mathlib.Core.Option.{Option, none, some}
use Prim.Native.Nat.{ℕ, zero, suc, ◌+◌, ◌*◌, ◌-◌, ◌≤◌}
use native.Mathlib.Omega.{arith}
use lib.ListN.{length, take, replicate, length-append}
use lib.Seq.{take_at}
use borrow.Author.Tests.{eq-eqb, ne_eqb}
use Rattle.model.specs.Sheet.{code_count}
use Rattle.model.specs.Count.{collect}
use Rattle.model.specs.Fact.{Fact, kind, value, Row}
use Rattle.model.specs.Run.{row_at}
use Rattle.model.specs.Tables.{present_bytes, cells, table_row}
use Rattle.model.specs.Analyses.{Analysed}
use Rattle.model.specs.Call.{Table, counts, tables, filled, filled_table}
use Rattle.model.specs.Listing.{fact_text, present_lines, rows_lines, head_line, analysis_lines}
use Rattle.model.specs.declared.AnalysisKind.{AnalysisKind}
use Rattle.finality.proofs.Invariant.{none_some}
use Rattle.finality.proofs.Cells.{Sized, length_present, length_cells}
use Rattle.finality.proofs.Memory.{present_shown, row_shown, row_part_lem}
use Rattle.text_listing.specs.Rows.{present_row, table_row_of, row_of, row_in, printed_analysis}
use Rattle.text_listing.specs.Answer.{Listable}

-- ---- what is collected in order

collect_same : (f g : ℕ → List ℕ) (n : ℕ) → ((i : ℕ) → f i ≡ g i) → collect f n ≡ collect g n
unfolding collect
collect_same f g zero h = refl
collect_same f g (suc n) h = ap₂ ◌++◌ (collect_same f g n h) (h n)

collect_front : (f : ℕ → List ℕ) (n : ℕ) → f 0 ++ collect (λ i. f (suc i)) n ≡ collect f (suc n)
unfolding collect
collect_front f zero = append-nil (f 0)
collect_front f (suc n) = sym (append_assoc (f 0) (collect (λ i. f (suc i)) n) (f (suc n))) ∙ ap (λ (x : List ℕ). x ++ f (suc n)) (collect_front f n)

rows_collected : (text : Fact → List ℕ) (slots : List ℕ) (pc : ℕ) (rows : List (Option Row)) → collect (λ i. present_lines text (pc + i) slots (row_at rows i)) (length rows) ≡ rows_lines text pc slots rows
unfolding rows_lines collect
rows_collected text slots pc [] = refl
rows_collected text slots pc (o ∷ os) =
    sym (collect_front (λ i. present_lines text (pc + i) slots (row_at (o ∷ os) i)) (length os))
    ∙ ap₂ ◌++◌ (ap (λ (p : ℕ). present_lines text p slots o) (omega arith))
    (collect_same _ (λ i. present_lines text (suc pc + i) slots (row_at os i)) (length os) (λ i. ap (λ (p : ℕ). present_lines text p slots (row_at os i)) (omega arith))
    ∙ rows_collected text slots (suc pc) os)

-- ---- a row in memory is the run's

module _ (a : Analysed) (sized : Sized (length a.slots) a.rows) (old : Table) where
  row_is : (pc : ℕ) (o : Option Row) → row_at a.rows pc ≡ o → row_in (length a.slots) (filled_table (tables a) old) pc ≡ o
  unfolding row_of table_row_of present_row filled_table filled tables table_row
  row_is pc none e =
      rw (ne_eqb _ 1 (λ k. let p = row_shown a.rows (length old.present - length (present_bytes a.rows)) pc k in none_some p.0 (sym e ∙ p.1)))
  row_is pc (some r) e =
      rw (eq-eqb _ 1 (present_shown a.rows (length old.present - length (present_bytes a.rows)) pc r e))
      (ap some (row_part_lem (length a.slots) a.rows sized
      (replicate (length old.kinds - length (cells kind (length a.slots) a.rows)) 0) (replicate (length old.values - length (cells value (length a.slots) a.rows)) 0) pc r e))

  module _ (which : AnalysisKind) (sheet : List ℕ) (all : length a.rows ≡ code_count sheet) where
    slots_are : take (length a.slots) (filled_table (tables a) old).slots ≡ a.slots
    unfolding filled_table filled tables
    slots_are = take_at a.slots (replicate (length old.slots - length a.slots) 0) (length a.slots) refl

    pub analysis_is : printed_analysis which (fact_text which sheet) (code_count sheet) (counts a) (filled_table (tables a) old) ≡ analysis_lines which sheet a
    unfolding printed_analysis analysis_lines counts
    analysis_is =
        ap (λ (x : List ℕ). head_line which (code_count sheet) (length a.slots) a.pops ++ x)
        (collect_same _ (λ pc. present_lines (fact_text which sheet) (0 + pc) a.slots (row_at a.rows pc)) (code_count sheet) row
        ∙ ap (collect (λ pc. present_lines (fact_text which sheet) (0 + pc) a.slots (row_at a.rows pc))) (sym all)
        ∙ rows_collected (fact_text which sheet) a.slots 0 a.rows)
      where
        row : (pc : ℕ) → present_lines (fact_text which sheet) pc (take (length a.slots) (filled_table (tables a) old).slots) (row_in (length a.slots) (filled_table (tables a) old) pc)
            ≡ present_lines (fact_text which sheet) (0 + pc) a.slots (row_at a.rows pc)
        row pc = let z : 0 + pc ≡ pc = omega arith in rw (z, slots_are, row_is pc (row_at a.rows pc) refl)

  -- the table is long enough for n rows of s cells
  pub listable : (n : ℕ) → length a.rows ≡ n → Listable n (counts a) (filled_table (tables a) old)
  unfolding filled_table filled tables counts
  listable n all = record {
    slots = longer a.slots _ (length a.slots) refl;
    present = longer (present_bytes a.rows) _ n (length_present a.rows ∙ all);
    kinds = longer (cells kind (length a.slots) a.rows) _ (n * length a.slots) (part kind);
    values = longer (cells value (length a.slots) a.rows) _ (n * length a.slots) (part value);
  }
    where
      longer : (front rest : List ℕ) (m : ℕ) → length front ≡ m → m ≤ length (front ++ rest)
      longer front rest m e = omega (arith, e, length-append front rest)

      part : (f : Fact → ℕ) → length (cells f (length a.slots) a.rows) ≡ n * length a.slots
      part f = length_cells f (length a.slots) a.rows sized ∙ ap (λ (m : ℕ). m * length a.slots) all
