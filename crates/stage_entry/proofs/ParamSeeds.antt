-- The parameters' facts, one after the other, charged and set in a row.
-- Assumes nothing.
use mathlib.Core.Path.{◌≡◌, refl, sym, ap, ◌∙◌}
use mathlib.Core.List.{List}
use mathlib.Core.Logic.{◌⊎◌, inl, inr}
use mathlib.Core.Option.{Option, none, some}
use Prim.Native.Nat.{ℕ, zero, suc, ◌+◌, ◌≤◌, ◌<◌}
use native.Mathlib.Nat.{eq-or-lt_of_le, le_of_suc-le-suc}
use native.Mathlib.Numerals.{add-one}
use native.Mathlib.Omega.{arith}
use lib.ListN.{length}
use Rattle.model.specs.Charges.{Spent, ok, give, continue, ◌>>=◌, ◌>>◌}
use Rattle.model.specs.Count.{sum}
use Rattle.model.specs.Fact.{Fact, Row}
use Rattle.model.specs.Sheet.{param_count, param_width}
use Rattle.model.specs.Tables.{RowLies, RowSlices, fact_in, cell_of}
use Rattle.model.specs.Transfer.{put}
use Rattle.model.specs.Parameters.{param_fact, charge_layouts, seed_param, seed_params}
use Rattle.model.specs.declared.FactCell.{FactCell}
use Rattle.model.specs.declared.VerifierResources.{VerifierResources}
use Rattle.budget.specs.Outcome.{Outcome, as_spent, leaves_of}
use Rattle.std.specs.Prelude.{Ok}
use Rattle.budget.proofs.Outcomes.{Stopped, NotCovered, covered_leaves, stopped_then, stopped_leaves, spent_stopped, left_covered, left_stopped}
use Rattle.budget.proofs.Spending.{covered, then_covered}
use Rattle.sheet.proofs.Sums.{SumUpto, added_none, added_more}
use Rattle.fact_row.specs.Changed.{cells_in, SameRow, FactSet, RowZero}
use Rattle.fact_row.specs.declared.row.FactRow.{FactRow}
use Rattle.fact_row.proofs.Facts.{read}
use Rattle.fact_row.proofs.FactSet.{put_lies, same_self, same_again}
use Rattle.stage_entry.specs.First.{row_laid, zero_row, LeavesRow}
use Rattle.stage_entry.proofs.RowsMade.{row_laid_lem, lies_of, blanked}

-- ---- one parameter

module _ (sheet : List ℕ) (slot : ℕ) (resources : VerifierResources) {facts : Row} (old : FactRow) (lies : RowLies facts (cells_in old)) where
  -- without a fact
  pub seed_none : (o : Option Fact) → o ≡ none → LeavesRow old.slots.now (seed_param sheet old.slots.now slot o facts resources) (Ok resources) (cells_in old)
  unfolding seed_param give
  seed_none o e = rw e (covered_leaves _ _ refl refl (row_laid_lem lies))

  module _ {cell : FactCell} (fact : Fact) (is : cell ≡ cell_of fact) (whole : Outcome) (came : as_spent whole ≡ charge_layouts sheet (fact_in cell) resources) where
    came_by : as_spent whole ≡ charge_layouts sheet fact resources
    came_by = came ∙ ap (λ (f : Fact). charge_layouts sheet f resources) (read fact is)

    pub seed_covered : {left : VerifierResources} {new : FactRow} → whole ≡ Ok left → FactSet slot cell old new
        → LeavesRow old.slots.now (seed_param sheet old.slots.now slot (some fact) facts resources) whole (cells_in new)
    unfolding seed_param give
    seed_covered e set_there =
        covered_leaves _ _ (then_covered (charge_layouts sheet fact) (give (put old.slots.now facts slot fact)) resources (covered came_by e)) e (row_laid_lem (put_lies lies set_there fact is))

    pub seed_refused : {new : FactRow} → NotCovered whole → SameRow old new → RowZero new
        → LeavesRow old.slots.now (seed_param sheet old.slots.now slot (some fact) facts resources) whole (cells_in new)
    unfolding seed_param ◌>>◌
    seed_refused h same z = stopped_leaves (stopped_then (spent_stopped whole came_by h) (λ _. give (put old.slots.now facts slot fact))) _ (blanked same z)

-- ---- all parameters

module _ (sheet slots : List ℕ) (start : ℕ) (budget : VerifierResources) where
  -- the facts of the first i parameters in the row
  abbrev seeded : ℕ → Row → Spent Row
  seeded i row = seed_params sheet slots start i row budget

  seeded_next : (i : ℕ) (row : Row) {out : Row} {left : VerifierResources} → seeded i row ≡ ok out left
      → seeded (i + 1) row ≡ seed_param sheet slots (start + sum (λ j. param_width sheet j) i) (param_fact sheet i) out left
  unfolding seed_params ◌>>=◌ continue
  seeded_next i row e = rw (add-one i, e)

  -- once refused, the rest is not charged
  stays_stopped : (row : Row) {outcome : Outcome} (i n : ℕ) → i ≤ n → Stopped (seeded i row) outcome → Stopped (seeded n row) outcome
  unfolding seed_params ◌>>=◌
  stays_stopped row i zero h s = let z : i ≡ 0 = omega arith in rw z at s
  stays_stopped row {outcome} i (suc n) h s = go (eq-or-lt_of_le h) (λ k. stays_stopped row i n k s)
    where
      go : (i ≡ suc n) ⊎ (i < suc n) → (i ≤ n → Stopped (seeded n row) outcome) → Stopped (seeded (suc n) row) outcome
      go (inl w) before = rw w at s
      go (inr k) before = stopped_then (before (le_of_suc-le-suc k)) _

  module _ (old : FactRow) (count : ℕ) where
    -- after i of the parameters, all charges covered
    pub record Seeded (now : FactRow) (left : VerifierResources) (passed i : ℕ) : Type 0 where
      pub added : SumUpto (λ j. param_width sheet j) count passed i
      pub same : SameRow old now
      pub is : (facts : Row) → RowLies facts (cells_in old) → (out : Row) × (seeded i facts ≡ ok out left) × RowLies out (cells_in now)

    pub seeded_none : Seeded old budget 0 0
    unfolding seed_params give
    seeded_none = record {
      added = added_none (λ j. param_width sheet j) count;
      same = same_self;
      is = λ facts l. (facts, refl, l);
    }

    -- what the first i parameters leave in memory
    abbrev SeededTo : ℕ → Outcome → RowSlices → Type 0
    SeededTo i outcome memory = (facts : Row) → RowLies facts (cells_in old) → LeavesRow slots (seeded i facts) outcome memory

    module _ {now : FactRow} {left : VerifierResources} {passed i : ℕ} (s : Seeded now left passed i) (h : i < count) (outcome : Outcome) {memory : RowSlices}
        (there : now.slots.now ≡ slots) (came : (facts : Row) → RowLies facts (cells_in now)
        → LeavesRow now.slots.now (seed_param sheet now.slots.now (start + passed) (param_fact sheet i) facts left) outcome memory) where
      came_next : SeededTo (i + 1) outcome memory
      came_next facts l =
          let o = s.is facts l in
          (rw there at (came o.0 o.2))
          ∙ ap (λ (p : ℕ). leaves_of row_laid (zero_row (length slots)) (seed_param sheet slots (start + p) (param_fact sheet i) o.0 left)) s.added.is
          ∙ ap (leaves_of row_laid (zero_row (length slots))) (sym (seeded_next i facts o.1))

      pub seeded_more : {rest : VerifierResources} {width : ℕ} {new : FactRow} → cells_in new ≡ memory → outcome ≡ Ok rest → width ≡ param_width sheet i → width ≤ 65535 → SameRow now new → Seeded new rest (passed + width) (i + 1)
      seeded_more m e w b same = record {
        added = added_more s.added h w b;
        same = same_again s.same same;
        is = λ facts l. let o = left_covered _ _ _ (came_next facts l) e in (o.0, o.1, lies_of (m ∙ o.2));
      }

      pub seeded_refused : NotCovered outcome → count ≡ param_count sheet → SeededTo (param_count sheet) outcome memory
      seeded_refused e n facts l =
          let u = left_stopped _ _ _ (came_next facts l) e in stopped_leaves (stays_stopped facts (i + 1) (param_count sheet) (omega arith) u.0) _ u.1

    pub seeded_all : {now : FactRow} {left : VerifierResources} {passed i : ℕ} → Seeded now left passed i → count ≤ i → count ≡ param_count sheet → SeededTo (param_count sheet) (Ok left) (cells_in now)
    seeded_all {now} {left} {passed} {i} s h n facts l =
        let p : i ≡ param_count sheet = omega (arith, s.added.within) in
        let o = s.is facts l in covered_leaves _ _ (ap (λ (m : ℕ). seeded m facts) (sym p) ∙ o.1) refl (row_laid_lem o.2)
