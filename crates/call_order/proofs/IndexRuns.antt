-- The index run reads what an IndexCheck below n makes of its length fact, and nothing else of it: it is the same by any two tables that agree in this.
-- Assumes nothing.
use mathlib.Core.Path.{◌≡◌, refl, ap, ◌∙◌}
use mathlib.Core.Bool.{Bool, true, false, cond, ◌||◌}
use mathlib.Core.List.{List, [], ◌∷◌}
use mathlib.Core.Option.{Option, none, some}
use Prim.Native.Nat.{ℕ, zero, suc, ◌<◌}
use native.Mathlib.Omega.{arith}
use lib.Dec.{leb, eqb}
use lib.ListN.{length, replicate, length-set, length-replicate}
use borrow.Author.Tests.{eqb-true}
use Rattle.model.specs.Fact.{Fact, Row}
use Rattle.model.specs.Sheet.{code_count, instruction}
use Rattle.model.specs.Transfer.{index_checked, checked_from, index_transfer, transfer_row}
use Rattle.model.specs.Run.{Analysis, State, RunEnd, finished, fuel_spent, next, and_then, row_at, merged, visit, visits, carry, popped, charged, pop, step, loop, bound, start, run_with, run}
use Rattle.model.specs.Analyses.{analysis}
use Rattle.model.specs.declared.Instruction.{Instruction}
use Rattle.model.specs.declared.AnalysisKind.{AnalysisKind}
use Rattle.model.specs.declared.AnalysisKind.TheVariants.{Constant, IndexCheck, Container}
use Rattle.model.proofs.Facts.{row_below}

-- ---- the transfer

checked_same : (b : Bool) (inst : Instruction) (slots : List ℕ) (row : Row) {f g : Fact} → (b ≡ true → f ≡ g) → index_checked b inst slots f row ≡ index_checked b inst slots g row
unfolding index_checked
checked_same true inst slots row h = rw (h refl)
checked_same false inst slots row h = refl

-- an IndexCheck alone reads its length fact
pub same_transfer : (which : AnalysisKind) (sheet slots : List ℕ) (f g : ℕ → Fact) (pc : ℕ) (row : Row) → ((instruction sheet pc).op ≡ 121 → checked_from (f pc) ≡ checked_from (g pc))
    → transfer_row which sheet slots f pc row ≡ transfer_row which sheet slots g pc row
unfolding transfer_row index_transfer
same_transfer Constant sheet slots f g pc row h = refl
same_transfer IndexCheck sheet slots f g pc row h = checked_same _ (instruction sheet pc) slots _ (λ e. h (eqb-true (instruction sheet pc).op 121 e))
same_transfer Container sheet slots f g pc row h = refl

-- ---- runs whose transfers agree below n

visits_length : (same : ℕ → ℕ → ℕ → ℕ → Bool) (copy : Row) (qs : List ℕ) (st : State) → length (visits same copy qs st).rows ≡ length st.rows
unfolding visits visit
visits_length same copy [] st = refl
visits_length same copy (q ∷ qs) st = visits_length same copy qs (visit same copy q st) ∙ length-set st.rows q (some (merged same (row_at st.rows q) copy))

module _ (n s : ℕ) (successors : ℕ → List ℕ) (same : ℕ → ℕ → ℕ → ℕ → Bool) (entry : Row) where
  -- the analysis with this transfer
  abbrev by : (ℕ → Row → Row) → Analysis
  by t = record { n = n; s = s; successors = successors; transfer = t; same = same; entry = entry }

  module _ (t u : ℕ → Row → Row) (agree : (p : ℕ) → p < n → (r : Row) → t p r ≡ u p r) where
    carry_same : (p : ℕ) (o : Option Row) (st : State) → (((r : Row) → o ≡ some r → p < n)) → carry (by t) p o st ≡ carry (by u) p o st
    unfolding carry
    carry_same p none st h = refl
    carry_same p (some r) st h = rw (agree p (h r refl) r)

    carry_length : (p : ℕ) (o : Option Row) (st : State) → length (carry (by u) p o st).rows ≡ length st.rows
    unfolding carry
    carry_length p none st = refl
    carry_length p (some r) st = visits_length same (u p r) (successors p) st

    charged_same : (b : Bool) (p : ℕ) (ps : List ℕ) (st : State) → length st.rows ≡ n → charged (by t) b p ps st ≡ charged (by u) b p ps st
    unfolding charged popped
    charged_same true p ps st h = ap next (carry_same p (row_at st.rows p) _ (λ r e. omega (arith, row_below st.rows p r e)))
    charged_same false p ps st h = refl

    -- what follows a step, by the same rule where the rows are n
    charged_then : (f g : State → RunEnd) → ((st : State) → length st.rows ≡ n → f st ≡ g st) → (b : Bool) (p : ℕ) (ps : List ℕ) (st : State) → length st.rows ≡ n
        → and_then f (charged (by u) b p ps st) ≡ and_then g (charged (by u) b p ps st)
    unfolding charged popped and_then
    charged_then f g go true p ps st h = go _ (carry_length p (row_at st.rows p) _ ∙ h)
    charged_then f g go false p ps st h = refl

    pop_then : (f g : State → RunEnd) → ((st : State) → length st.rows ≡ n → f st ≡ g st) → (list : List ℕ) (st : State) → length st.rows ≡ n
        → and_then f (pop (by t) list st) ≡ and_then g (pop (by u) list st)
    unfolding pop and_then
    pop_then f g go [] st h = refl
    pop_then f g go (p ∷ ps) st h =
        ap (and_then f) (charged_same (leb s st.left) p ps st h) ∙ charged_then f g go (leb s st.left) p ps st h

    loop_same : (fuel : ℕ) (st : State) → length st.rows ≡ n → loop (by t) fuel st ≡ loop (by u) fuel st
    unfolding loop step
    loop_same zero st h = pop_then (λ st'. fuel_spent) (λ st'. fuel_spent) (λ st' k. refl) st.list st h
    loop_same (suc fuel) st h = pop_then (loop (by t) fuel) (loop (by u) fuel) (λ st' k. loop_same fuel st' k) st.list st h

    run_same : (left : ℕ) → run (by t) left ≡ run (by u) left
    unfolding run run_with start
    run_same left =
        ap (λ (e : RunEnd). cond (eqb n 0 || eqb s 0) (finished (replicate n none) 0 left) e)
        (loop_same (bound (by u)) _ (length-set (replicate n none) 0 (some entry) ∙ length-replicate n none))

-- Two analyses whose length facts agree at each IndexCheck below n have the same run.
pub same_run : (which : AnalysisKind) (sheet slots : List ℕ) (f g : ℕ → Fact) (entry : Row) → ((pc : ℕ) → pc < code_count sheet → (instruction sheet pc).op ≡ 121 → checked_from (f pc) ≡ checked_from (g pc))
    → (left : ℕ) → run (analysis which sheet slots f entry) left ≡ run (analysis which sheet slots g entry) left
unfolding analysis
same_run which sheet slots f g entry h left = run_same _ _ _ _ entry (transfer_row which sheet slots f) (transfer_row which sheet slots g) (λ p l r. same_transfer which sheet slots f g p r (h p l)) left

-- The constant and the container analysis read none, so theirs is the same by any two.
pub other_run : (which : AnalysisKind) (sheet slots : List ℕ) (f g : ℕ → Fact) (entry : Row) → (which ≡ IndexCheck → ⊥)
    → (left : ℕ) → run (analysis which sheet slots f entry) left ≡ run (analysis which sheet slots g entry) left
unfolding analysis transfer_row
other_run which sheet slots f g entry other left = run_same _ _ _ _ entry (transfer_row which sheet slots f) (transfer_row which sheet slots g) (λ p l r. go which other p r) left
  where
    go : (which : AnalysisKind) → (which ≡ IndexCheck → ⊥) → (p : ℕ) (r : Row) → transfer_row which sheet slots f p r ≡ transfer_row which sheet slots g p r
    go Constant h p r = refl
    go IndexCheck h p r = absurd (h refl)
    go Container h p r = refl
