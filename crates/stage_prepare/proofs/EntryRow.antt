-- The matrix charge and the first row, as the code makes them.
-- Assumes nothing.
use Rattle.std.specs.Prelude.{Ok}
use mathlib.Core.Path.{◌≡◌, sym, ap, ◌∙◌}
use mathlib.Core.Bool.{true}
use mathlib.Core.List.{List}
use Prim.Native.Nat.{ℕ, ◌*◌}
use lib.ListN.{length, length-replicate}
use Rattle.model.specs.Tables.{RowSlices, row_slices}
use Rattle.model.specs.Lookup.{ascends}
use Rattle.model.specs.Charges.{◌>>◌, spend_bytes}
use Rattle.model.specs.Closure.{stage_number}
use Rattle.model.specs.Analyses.{fact_bytes, charge_matrix, first_row}
use Rattle.model.specs.declared.VerifierResources.{VerifierResources}
use Rattle.model.specs.declared.AnalysisKind.{AnalysisKind}
use Rattle.budget.specs.Outcome.{Outcome, as_spent, leaves_of}
use Rattle.budget.proofs.Outcomes.{NotCovered, stopped_then, stopped_leaves, spent_stopped}
use Rattle.budget.proofs.Spending.{covered}
use Rattle.sheet.specs.Measured.{Measured}
use Rattle.sheet.specs.declared.Sizes.{Sizes}
use Rattle.sheet.proofs.SizeNames.{counted}
use Rattle.fact_row.specs.Changed.{cells_in, RowZero}
use Rattle.fact_row.specs.Rows.{WritableRow}
use Rattle.fact_row.specs.declared.row.FactRow.{FactRow}
use Rattle.stage_entry.specs.First.{row_laid, zero_row, LeavesRow}
use Rattle.stage_prepare.specs.Begin.{entering}
use Rattle.stage_prepare.proofs.StageParts.{matrix_covered}

-- a row of zeros has a place for each slot
pub zero_writable : {slots kinds values : List ℕ} → ascends slots ≡ true → row_slices kinds values ≡ zero_row (length slots) → WritableRow slots kinds values
zero_writable {slots} up z = record {
  ascending = up;
  kinds_long = ap (λ (m : RowSlices). length m.kinds) z ∙ length-replicate (length slots) 0;
  values_long = ap (λ (m : RowSlices). length m.values) z ∙ length-replicate (length slots) 0;
}

pub zero_is : {row : FactRow} → cells_in row ≡ zero_row (length row.slots.now) → RowZero row
zero_is z = record { kinds_zero = ap (λ (m : RowSlices). m.kinds) z; values_zero = ap (λ (m : RowSlices). m.values) z }

module _ (which : AnalysisKind) (sheet : List ℕ) (sizes : Sizes) (slots : List ℕ) (budget : VerifierResources) (charged : Outcome) (m : Measured sheet sizes)
    (e : as_spent charged ≡ spend_bytes (stage_number which) (sizes.code_count * length slots * fact_bytes which) budget) where
  matrix : as_spent charged ≡ charge_matrix which sheet slots budget
  unfolding charge_matrix
  matrix = e ∙ ap (λ (n : ℕ). spend_bytes (stage_number which) (n * length slots * fact_bytes which) budget) (counted m.are).code_count_is

  pub enter_refused : {memory : RowSlices} → NotCovered charged → memory ≡ zero_row (length slots) → LeavesRow slots (entering which sheet slots budget) charged memory
  unfolding entering ◌>>◌
  enter_refused h z = stopped_leaves (stopped_then (spent_stopped charged matrix h) _) _ z

  pub enter_covered : {left : VerifierResources} {outcome : Outcome} {memory : RowSlices} → charged ≡ Ok left → LeavesRow slots (first_row which sheet slots left) outcome memory
      → {kinds values : List ℕ} → kinds ≡ memory.kinds → values ≡ memory.values → LeavesRow slots (entering which sheet slots budget) outcome (row_slices kinds values)
  enter_covered {left} c l k v = rw (k, v) l ∙ ap (leaves_of row_laid (zero_row (length slots))) (sym (matrix_covered which sheet slots budget left (covered matrix c)))
