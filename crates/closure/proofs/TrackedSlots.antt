-- The whole closure: its charges before the loop, the loop, and the slots.
-- Assumes nothing.
use Rattle.std.proofs.Common.{◌≡◌, ℕ, zero, suc, ◌≤◌, List, [], ◌∷◌, ◌++◌, length, take, drop, replicate, sym, refl, ap, ◌∙◌, arith, take-append-drop, length-take-le}
use mathlib.Core.Option.{some}
use Rattle.model.specs.Sheet.{local_slots}
use Rattle.model.specs.Charges.{Spent, ok, stop, unfinished, Metered, give, continue, ◌>>=◌, ◌>>◌}
use Rattle.model.specs.Closure.{Marked, seeded, expand, places, tracked_slots, stage_number}
use Rattle.model.specs.Call.{zeros}
use Rattle.model.specs.declared.AnalysisKind.{AnalysisKind}
use Rattle.model.specs.declared.VerifierResources.{VerifierResources}
use Rattle.std.specs.Prelude.{Ok, Err}
use Rattle.budget.specs.declared.Refused.{Refused}
use Rattle.budget.specs.Outcome.{Outcome, as_spent, leaves, leaves_of}
use Rattle.budget.proofs.Outcomes.{covered_leaves, stopped_then, stopped_leaves, refused_stopped, left_covered, left_stopped}
use Rattle.budget.proofs.Spending.{covered, then_covered}
use Rattle.closure_marks.specs.Slots.{fitted}
use Rattle.closure.specs.Expanded.{MarksZero}
use Rattle.closure.specs.Closed.{scratch_charges, Closed, closed, closed_by}

err_not_ok : {refused : Refused} {left : VerifierResources} → ◌≡◌ {A = Outcome} (Err refused) (Ok left) → ⊥
err_not_ok e = let z : ◌≡◌ {A = ℕ} 0 1 = cc in omega arith

-- ---- the parts of the whole

regroup : {A B D : Type 0} (one : Metered A) (two : Metered B) (rest : Metered D) (budget : VerifierResources) → (one >> (two >> rest)) budget ≡ ((one >> two) >> rest) budget
unfolding ◌>>◌ continue
regroup {A} one two rest budget = go (one budget)
  where
    go : (spent : Spent A) → continue (λ _. two >> rest) spent ≡ continue (λ _. rest) (continue (λ _. two) spent)
    go (ok a left) = refl
    go (stop refusal left) = refl
    go unfinished = refl

-- the charges before the loop, by the stage's number
pub of_stage : (l : ℕ) {number stage : ℕ} (budget : VerifierResources) (scratch : Outcome) → number ≡ stage → as_spent scratch ≡ scratch_charges number l budget → as_spent scratch ≡ scratch_charges stage l budget
of_stage l budget scratch e h = rw e at h

-- the slots that are marked, where these are the closure's marks
closed_is : (slots : List ℕ) {marks marked slots' : List ℕ} {s : ℕ} → marks ≡ marked → s ≡ length (places 0 marks) → slots' ≡ fitted (places 0 marks) slots
    → closed s slots' ≡ closed_by slots (places 0 marked)
closed_is slots e p q = rw (p, q, e)

module _ (which : AnalysisKind) (sheet : List ℕ) (l : ℕ) (all : l ≡ local_slots sheet) where
  -- the loop, and the slots it marked
  closing : Metered (List ℕ)
  closing = expand which sheet (local_slots sheet) (seeded which sheet) >>= (λ m. give (places 0 m.marks))

  parts : (budget : VerifierResources) → tracked_slots which sheet budget ≡ (scratch_charges (stage_number which) l >> closing) budget
  unfolding tracked_slots scratch_charges closing
  parts budget = rw all (regroup _ _ _ budget)

  -- the whole closure, as the code leaves it
  abbrev Tracks : VerifierResources → List ℕ → Outcome → Closed → Type 0
  Tracks budget slots outcome memory = some (leaves outcome memory) ≡ leaves_of (closed_by slots) (closed 0 slots) (tracked_slots which sheet budget)

  module _ (budget : VerifierResources) (slots : List ℕ) where
    -- a charge before the loop is refused
    pub scratch_refused : (refused : Refused) → as_spent (Err refused) ≡ scratch_charges (stage_number which) l budget → Tracks budget slots (Err refused) (closed 0 slots)
    unfolding ◌>>◌
    scratch_refused refused charged = rw (parts budget) (stopped_leaves (stopped_then (refused_stopped charged refl) _) _ refl)

    module _ {scratch : Outcome} (charged : as_spent scratch ≡ scratch_charges (stage_number which) l budget) {left : VerifierResources} (left_is : scratch ≡ Ok left) where
      whole : tracked_slots which sheet budget ≡ closing left
      whole = parts budget ∙ then_covered (scratch_charges (stage_number which) l) closing budget (covered charged left_is)

      module _ (old : List ℕ) {ended : Outcome} {marks : List ℕ}
          (came : some (leaves ended marks) ≡ leaves_of (λ (m : Marked). m.marks) (zeros old) (expand which sheet (local_slots sheet) (seeded which sheet) left)) where
        -- a charge of the loop is refused
        pub refused_closed : (refused : Refused) → ended ≡ Err refused → Tracks budget slots (Err refused) (closed 0 slots) × (marks ≡ zeros old)
        unfolding closing ◌>>=◌
        refused_closed refused e =
            let u = left_stopped _ _ _ came (λ rest k. err_not_ok (sym e ∙ k)) in
            let closes : Tracks budget slots ended (closed 0 slots) = rw whole (stopped_leaves (stopped_then u.0 _) _ refl) in
            (rw e at closes, u.1)

        -- the loop ends
        pub done_closed : {rest : VerifierResources} {s : ℕ} {slots' : List ℕ} → ended ≡ Ok rest → s ≡ length (places 0 marks) → slots' ≡ fitted (places 0 marks) slots
            → Tracks budget slots (Ok rest) (closed s slots')
        unfolding closing ◌>>=◌ continue give
        done_closed e p q =
            let d = left_covered _ _ _ came e in
            covered_leaves _ _ (whole ∙ ap (continue (λ m. give (places 0 m.marks))) d.1) refl (closed_is slots d.2 p q)

-- ---- the marks that are lent

pub take_zeros : (l : ℕ) (xs : List ℕ) → xs ≡ replicate (length xs) 0 → take l xs ≡ replicate (length (take l xs)) 0
take_zeros zero xs e = refl
take_zeros (suc l) [] e = refl
take_zeros (suc l) (x ∷ xs) e =
    let p : x ≡ 0 = cc in
    let q : xs ≡ replicate (length xs) 0 = cc in
    rw (p, ← (take_zeros l xs q))

module _ (sheet : List ℕ) {l : ℕ} (marks stack : List ℕ) (all : l ≡ local_slots sheet) (wide : l ≤ length marks) (deep : l ≤ length stack) (no_marks : marks ≡ zeros marks) (no_entries : stack ≡ zeros stack) where
  pub blank : MarksZero sheet (take l marks) stack
  unfolding zeros
  blank = record {
    wide = length-take-le l marks wide ∙ all;
    deep = omega arith;
    no_marks = take_zeros l marks no_marks;
    no_entries = no_entries;
  }

  -- the first L cleared, and the others as they were
  pub marks_clear : {part : List ℕ} → part ≡ zeros (take l marks) → part ++ drop l marks ≡ zeros marks
  marks_clear e = ap (λ (p : List ℕ). p ++ drop l marks) (e ∙ sym blank.no_marks) ∙ take-append-drop l marks ∙ no_marks
