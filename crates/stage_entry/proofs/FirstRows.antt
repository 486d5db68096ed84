-- The first row of each analysis: the parameters' facts and charges, then the notes' charges.
-- Assumes nothing.
use mathlib.Core.Path.{◌≡◌, refl}
use mathlib.Core.Bool.{false}
use mathlib.Core.List.{List}
use mathlib.Core.Option.{Option, none, some}
use Prim.Native.Nat.{ℕ, ◌<◌}
use native.Mathlib.Omega.{arith}
use lib.ListN.{length}
use borrow.Author.Tests.{ne_eqb}
use Rattle.model.specs.Tables.{RowLies, RowSlices}
use Rattle.model.specs.Charges.{Spent, give, continue, ◌>>=◌, ◌>>◌}
use Rattle.model.specs.Fact.{Row}
use Rattle.model.specs.Sheet.{code_count, param_count}
use Rattle.model.specs.Parameters.{param_start, seed_params, param_row, charge_instruction_facts}
use Rattle.model.specs.Analyses.{unknown_row, container_row, first_row}
use Rattle.model.specs.declared.AnalysisKind.{AnalysisKind}
use Rattle.model.specs.declared.AnalysisKind.TheVariants.{Constant, IndexCheck, Container}
use Rattle.model.specs.declared.VerifierResources.{VerifierResources}
use Rattle.budget.specs.Outcome.{Outcome, as_spent}
use Rattle.std.specs.Prelude.{Ok}
use Rattle.budget.proofs.Outcomes.{NotCovered, covered_leaves, stopped_then, stopped_leaves, spent_stopped, left_covered, left_stopped}
use Rattle.budget.proofs.Spending.{covered, then_covered}
use Rattle.fact_row.specs.Changed.{cells_in, RowZero}
use Rattle.fact_row.specs.declared.row.FactRow.{FactRow}
use Rattle.fact_row.proofs.FactSet.{same_self}
use Rattle.stage_entry.specs.First.{zero_row, LeavesRow, RowLeft}
use Rattle.stage_entry.proofs.RowsMade.{blank_lies, row_laid_lem}

-- ---- parameters

module _ (sheet : List ℕ) (budget : VerifierResources) (facts : Row) (row : FactRow) {o : Option ℕ} (is : o ≡ param_start sheet) where
  pub param_none : o ≡ none → RowLies facts (cells_in row) → LeavesRow row.slots.now (param_row sheet row.slots.now (param_start sheet) facts budget) (Ok budget) (cells_in row)
  unfolding param_row give
  param_none e l = rw (← is, e) (covered_leaves _ _ refl refl (row_laid_lem l))

  pub param_some : {start : ℕ} → o ≡ some start → seed_params sheet row.slots.now start (param_count sheet) facts budget ≡ param_row sheet row.slots.now (param_start sheet) facts budget
  unfolding param_row
  param_some e = rw (← is, e)

-- ---- containers

module _ (sheet slots : List ℕ) (budget : VerifierResources) where
  -- what the parameters come to
  abbrev params : Spent Row
  params = param_row sheet slots (param_start sheet) (unknown_row slots) budget

  -- a container row, as the code leaves it
  abbrev Entered : Outcome → RowSlices → Type 0
  Entered outcome memory = LeavesRow slots (container_row false sheet slots budget) outcome memory

  module _ (seeded : Outcome) {memory : RowSlices} (came : LeavesRow slots params seeded memory) where
    -- a parameter's charge is refused
    pub params_refused : NotCovered seeded → Entered seeded memory
    unfolding container_row ◌>>=◌
    params_refused h = let u = left_stopped _ _ _ came h in stopped_leaves (stopped_then u.0 _) _ u.1

    module _ {left : VerifierResources} (e : seeded ≡ Ok left) (charged : Outcome) (notes : as_spent charged ≡ charge_instruction_facts sheet left) where
      -- a note's charge is refused
      pub notes_refused : {cleared : RowSlices} → NotCovered charged → cleared ≡ zero_row (length slots) → Entered charged cleared
      unfolding container_row ◌>>=◌ ◌>>◌ continue
      notes_refused h z =
          let r = left_covered _ _ _ came e in
          rw r.1 (stopped_leaves (stopped_then (spent_stopped charged notes h) (λ _. give r.0)) _ z)

      -- all is covered
      pub notes_covered : {rest : VerifierResources} → charged ≡ Ok rest → Entered charged memory
      unfolding container_row ◌>>=◌ continue give
      notes_covered f =
          let r = left_covered _ _ _ came e in
          rw r.1 (covered_leaves _ _ (then_covered (charge_instruction_facts sheet) (give r.0) left (covered notes f)) f r.2)

-- ---- the three

module _ (which : AnalysisKind) (sheet : List ℕ) (budget : VerifierResources) (old : FactRow) where
  -- the first row of an analysis, as the code leaves it
  abbrev First : Outcome → FactRow → Type 0
  First outcome new = RowLeft (first_row which sheet old.slots.now budget) outcome old new

  pub constant_row : which ≡ Constant → RowZero old → First (Ok budget) old
  unfolding first_row give
  constant_row e b = record { same = same_self; leaves = rw e (covered_leaves _ _ refl refl (row_laid_lem (blank_lies b))) }

  pub index_row : which ≡ IndexCheck → RowZero old → First (Ok budget) old
  unfolding first_row give
  index_row e b = record { same = same_self; leaves = rw e (covered_leaves _ _ refl refl (row_laid_lem (blank_lies b))) }

  pub container_row_lem : {outcome : Outcome} {new : FactRow} → which ≡ Container → 0 < code_count sheet → 0 < length old.slots.now
      → RowLeft (container_row false sheet old.slots.now budget) outcome old new → First outcome new
  unfolding first_row
  container_row_lem e n s came = record { same = came.same; leaves = rw (e, ne_eqb (code_count sheet) 0 (λ z. omega arith), ne_eqb (length old.slots.now) 0 (λ z. omega arith)) came.leaves }
