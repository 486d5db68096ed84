-- A stage, step by step: by what its closure gave, by question 8, by the matrix charge and the first row; then its run.
-- Assumes nothing.
use mathlib.Core.Path.{◌≡◌, refl, ap, ◌∙◌}
use mathlib.Core.Bool.{Bool, true, false, ◌||◌}
use mathlib.Core.Logic.{◌⊎◌, inl, inr}
use mathlib.Core.List.{List}
use mathlib.Core.Option.{none}
use Prim.Native.Nat.{ℕ, ◌*◌}
use native.Mathlib.Nat.{sub-zero, zero-mul, mul-zero}
use native.Mathlib.Omega.{arith}
use lib.Dec.{eqb}
use lib.ListN.{length, replicate}
use borrow.Author.Tests.{le-leb}
use Rattle.model.specs.Sheet.{code_count}
use Rattle.model.specs.Charges.{Spent, ok, stop, unfinished, give, continue, ◌>>=◌, ◌>>◌, in_stage, bytes_charged, charge_bytes, spend_bytes}
use Rattle.model.specs.Closure.{tracked_slots}
use Rattle.model.specs.Fact.{Fact, Row}
use Rattle.model.specs.Run.{RunEnd}
use Rattle.model.specs.Analyses.{Analysed, unknown_row, analysis, ask_room, fact_bytes, charge_matrix, container_row, first_row, ran_to, propagate, stage}
use Rattle.model.specs.declared.VerifierResources.{VerifierResources}
use Rattle.model.specs.declared.AnalysisKind.{AnalysisKind}
use Rattle.model.specs.declared.AnalysisKind.TheVariants.{Constant, IndexCheck, Container}
use Rattle.finality.proofs.Lawful.{demand, unknown_length}
use Rattle.stage_prepare.specs.Begin.{entering, enter_if, Begun, begin}
use mathlib.Core.Bool.{or-true}

-- the run of what was begun
abbrev pub go_on : AnalysisKind → List ℕ → (ℕ → Fact) → Spent Begun → Spent Analysed
go_on which sheet length_fact spent = continue (λ b. propagate which sheet b.slots length_fact b.entry) spent

module _ (which : AnalysisKind) (sheet : List ℕ) (enough : ℕ → Bool) (length_fact : ℕ → Fact) (budget : VerifierResources) where
  -- a stage is what is before its run, and its run
  pub stage_begins : stage which sheet enough length_fact budget ≡ go_on which sheet length_fact (begin which sheet enough budget)
  unfolding stage begin ◌>>=◌ ◌>>◌ continue give ask_room enter_if entering
  stage_begins = closed (tracked_slots which sheet budget)
    where
      entered : (slots : List ℕ) (spent : Spent Row)
          → continue (λ entry. propagate which sheet slots length_fact entry) spent
          ≡ go_on which sheet length_fact (continue (λ entry. give (record { slots = slots; entry = entry })) spent)
      entered slots (ok entry rest) = refl
      entered slots (stop refusal rest) = refl
      entered slots unfinished = refl

      charged : (slots : List ℕ) (spent : Spent (Unit {0}))
          → continue (λ _ rest. continue (λ entry. propagate which sheet slots length_fact entry) (first_row which sheet slots rest)) spent
          ≡ go_on which sheet length_fact (continue (λ entry. give (record { slots = slots; entry = entry })) (continue (λ _. first_row which sheet slots) spent))
      charged slots (ok u rest) = entered slots (first_row which sheet slots rest)
      charged slots (stop refusal rest) = refl
      charged slots unfinished = refl

      asked : (b : Bool) (slots : List ℕ) (left : VerifierResources)
          → continue (λ _ rest. continue (λ _ rest. continue (λ entry. propagate which sheet slots length_fact entry) (first_row which sheet slots rest)) (charge_matrix which sheet slots rest)) (ask_room b left)
          ≡ go_on which sheet length_fact (continue (λ entry. give (record { slots = slots; entry = entry })) (enter_if b which sheet slots left))
      asked true slots left = charged slots (charge_matrix which sheet slots left)
      asked false slots left = refl

      closed : (spent : Spent (List ℕ))
          → continue (λ slots. ask_room (enough (length slots)) >> (charge_matrix which sheet slots >> (first_row which sheet slots >>= (λ entry. propagate which sheet slots length_fact entry)))) spent
          ≡ go_on which sheet length_fact (continue (λ slots. enter_if (enough (length slots)) which sheet slots >>= (λ entry. give (record { slots = slots; entry = entry }))) spent)
      closed (ok slots left) = asked (enough (length slots)) slots left
      closed (stop refusal left) = refl
      closed unfinished = refl

module _ (which : AnalysisKind) (sheet : List ℕ) (enough : ℕ → Bool) (budget : VerifierResources) where
  pub closure_tracked : (slots : List ℕ) (left : VerifierResources) → tracked_slots which sheet budget ≡ ok slots left
      → begin which sheet enough budget ≡ continue (λ entry. give (record { slots = slots; entry = entry })) (enter_if (enough (length slots)) which sheet slots left)
  unfolding begin ◌>>=◌ continue
  closure_tracked slots left e = rw e

-- ---- behind question 8

module _ (which : AnalysisKind) (sheet slots : List ℕ) (budget : VerifierResources) where
  pub matrix_covered : (charged : VerifierResources) → charge_matrix which sheet slots budget ≡ ok tt charged → entering which sheet slots budget ≡ first_row which sheet slots charged
  unfolding entering ◌>>◌ continue
  matrix_covered charged e = rw e

  -- ---- with n or s zero

  none_charged : (code_count sheet ≡ 0) ⊎ (length slots ≡ 0) → charge_matrix which sheet slots budget ≡ ok tt budget
  unfolding charge_matrix spend_bytes in_stage charge_bytes bytes_charged
  none_charged z =
      let none : code_count sheet * length slots * fact_bytes which ≡ 0 = no_cells z in
      rw (none, le-leb 0 budget.bytes (omega arith), sub-zero budget.bytes)
    where
      no_cells : (code_count sheet ≡ 0) ⊎ (length slots ≡ 0) → code_count sheet * length slots * fact_bytes which ≡ 0
      no_cells (inl e) = rw (e, zero-mul (length slots), zero-mul (fact_bytes which))
      no_cells (inr e) = rw (e, mul-zero (code_count sheet), zero-mul (fact_bytes which))

  unknown_first : (code_count sheet ≡ 0) ⊎ (length slots ≡ 0) → first_row which sheet slots budget ≡ ok (unknown_row slots) budget
  unknown_first z = go which z
    where
      empty : (code_count sheet ≡ 0) ⊎ (length slots ≡ 0) → eqb (code_count sheet) 0 || eqb (length slots) 0 ≡ true
      empty (inl e) = rw e
      empty (inr e) = rw e (or-true (eqb (code_count sheet) 0))

      go : (which : AnalysisKind) → (code_count sheet ≡ 0) ⊎ (length slots ≡ 0) → first_row which sheet slots budget ≡ ok (unknown_row slots) budget
      go Constant k = unfold first_row give in refl
      go IndexCheck k = unfold first_row give in refl
      go Container k = unfold first_row container_row give in (rw (empty k))

  -- nothing is charged, and the first row is of Unknown
  pub enters_at_once : (code_count sheet ≡ 0) ⊎ (length slots ≡ 0) → entering which sheet slots budget ≡ ok (unknown_row slots) budget
  enters_at_once z = matrix_covered budget (none_charged z) ∙ unknown_first z

  -- and the run has no row and no pop
  pub runs_at_once : (code_count sheet ≡ 0) ⊎ (length slots ≡ 0) → (length_fact : ℕ → Fact)
      → propagate which sheet slots length_fact (unknown_row slots) budget
      ≡ ok (record { slots = slots; entry = unknown_row slots; started = budget; rows = replicate (code_count sheet) none; pops = 0 }) budget
  unfolding propagate analysis ran_to
  runs_at_once z length_fact =
      ap (λ (e : RunEnd). ran_to e which slots (unknown_row slots) budget) ((demand which sheet slots length_fact (unknown_row slots) (unknown_length slots) budget.work).at_once z)
