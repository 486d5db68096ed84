-- "Order: flow graph, dependencies, constants, index, containers.": the three analyses, as the code makes them.
-- Assumes nothing.
use Rattle.std.specs.Prelude.{Err, is_err}
use mathlib.Core.Path.{◌≡◌, refl, sym, ap, ◌∙◌}
use mathlib.Core.Bool.{Bool, true, false}
use mathlib.Core.List.{List}
use mathlib.Core.Option.{some}
use Prim.Native.Nat.{ℕ, ◌≤◌}
use Rattle.model.specs.Sheet.{code_count, local_slots}
use Rattle.model.specs.Charges.{Spent, give, continue, ◌>>=◌, ◌>>◌, Refusal, over_budget, no_room, stop}
use Rattle.model.specs.Fact.{unknown}
use Rattle.fixpoint_step.specs.Lengths.{lengths_in}
use Rattle.fixpoint_step.specs.declared.lengths.LengthFact.{LengthFact}
use Rattle.model.specs.Analyses.{Analysed, length_facts, stage, Facts, analyses}
use Rattle.model.specs.Call.{Table, Scratch, counts, tables, zero_table, filled_table, Lent, lent, table_of, table_room, closure_room, call_end, after_six, after_five, call, answer, scratch_zero, lent_after, call_result, result_of, analyzed}
use Rattle.model.specs.declared.VerifierResources.{VerifierResources}
use Rattle.model.specs.declared.AnalysisKind.TheVariants.{Constant, IndexCheck, Container}
use Rattle.model.specs.declared.Counts.{Counts}
use Rattle.finality.proofs.Lengths.{SameLengths}
use Rattle.sheet.specs.declared.Sizes.{Sizes}
use Rattle.sheet.specs.Measured.{Accepted}
use Rattle.budget.specs.Outcome.{Outcome, as_spent, leaves, leaves_of, refused_by}
use Rattle.stage_memory.specs.Stage.{zero_scratch, table_if}
use Rattle.closure_edges.specs.GraphCharges.{charge_graph}
use Rattle.stage_memory.specs.Staged.{no_counts, staged, staged_by}
use Rattle.call_order.specs.Stored.{Stored, Lengthened}
use Rattle.call_order.specs.Values.{ValueFacts, value_facts, values, valued, valued_by, no_values, ValuesLeft}
use Rattle.call_order.specs.Answer.{counts_unless, answer_of}
use Rattle.call_order.proofs.PartAfterPart.{continue_twice, then_left, left_same}
use Rattle.call_order.proofs.SameStages.{room_cleared, constants_same, index_same, containers_same}
use Rattle.call_order.proofs.ClearedOutputs.{zero_same, room_in, StageEnds, staged_same, still_clear}
use Rattle.call_order.proofs.ConstantOutput.{output_stored}
use lib.ListN.{length}
use borrow.Author.Tests.{le-leb}
use Rattle.model.specs.CallDemand.{LentDemand}
use Rattle.model.specs.declared.Answer.{Answer}
use Rattle.model.specs.declared.Answer.TheVariants.{Analyzed}
use Rattle.finality.proofs.Lent.{analyzed_demand}
use Rattle.budget.proofs.Outcomes.{Left, covered, stopped, left_by}

-- ---- constants and index

-- what `analyze_values` promises, from what the functions that it calls promise
module _ (sheet : List ℕ) {sizes : Sizes} (accepted : Accepted sheet sizes) (budget : VerifierResources) (C I : Table) (W : Scratch) (lk lk' : List LengthFact)
    (begun : Outcome) {o₁ o₂ : Outcome} {n₁ n₂ : Counts} {w w₁ w₂ : Scratch} {c₁ i₁ : Table} (wz : w ≡ zero_scratch W) (graph : as_spent begun ≡ charge_graph sheet budget)
    (e₁ : StageEnds Constant sheet (lengths_in lk) begun C w o₁ (staged n₁ c₁ w₁))
    (lengths : is_err o₁ ≡ false → (x : Analysed) → Stored sheet x n₁ c₁ → Lengthened sheet x lk lk')
    (e₂ : StageEnds IndexCheck sheet (lengths_in lk') o₁ I w₁ o₂ (staged n₂ i₁ w₂))
    (same : SameLengths c₁ C) where
  c_zero : w₁ ≡ zero_scratch W
  c_zero = still_clear C W wz _ e₁

  i_zero : w₂ ≡ zero_scratch W
  i_zero = still_clear I W c_zero _ e₂

  -- the charges and the constants
  constants_first : continue (λ _. stage Constant sheet (room_in sheet C w) (lengths_in lk)) (as_spent begun)
      ≡ continue (λ _. stage Constant sheet (room_in sheet C W) (λ pc. unknown)) (charge_graph sheet budget)
  constants_first = rw (graph, constants_same sheet (room_cleared (code_count sheet) C W wz) (lengths_in lk) (λ pc. unknown))

  values_twice : continue (λ x left. continue (λ y. give (value_facts x y)) (stage IndexCheck sheet (room_in sheet I W) (length_facts sheet x) left))
      (continue (λ _. stage Constant sheet (room_in sheet C w) (lengths_in lk)) (as_spent begun)) ≡ values sheet (room_in sheet C W) (room_in sheet I W) budget
  unfolding values ◌>>=◌ ◌>>◌
  values_twice = rw constants_first (continue_twice _ _ (charge_graph sheet budget))

  both_ended : (x y : Analysed) → is_err o₂ ≡ false → staged n₁ c₁ w₁ ≡ staged_by C w x → staged n₂ i₁ w₂ ≡ staged_by I w₁ y
      → valued (counts_unless (is_err o₂) n₁) n₂ (table_if (is_err o₂) c₁) i₁ w₂ ≡ valued_by C I W (value_facts x y)
  unfolding staged_by valued_by counts_unless table_if
  both_ended x y goes p q = rw (goes, (staged_same p).0, (staged_same p).1, (staged_same q).0, (staged_same q).1, i_zero)

  one_refused : is_err o₂ ≡ true → staged n₂ i₁ w₂ ≡ staged no_counts (zero_table I) (zero_scratch w₁)
      → valued (counts_unless (is_err o₂) n₁) n₂ (table_if (is_err o₂) c₁) i₁ w₂ ≡ no_values C I W
  unfolding no_values counts_unless table_if
  one_refused quit q = rw (quit, zero_same c₁ C same, (staged_same q).0, (staged_same q).1, i_zero)

  pub values_promise : {constant : Counts} {c₂ : Table} {z : Bool} → z ≡ is_err o₂ → constant ≡ counts_unless z n₁ → c₂ ≡ table_if z c₁
      → some (leaves o₂ (valued constant n₂ c₂ i₁ w₂)) ≡ leaves_of (valued_by C I W) (no_values C I W) (values sheet (room_in sheet C W) (room_in sheet I W) budget)
  values_promise p q r =
      rw (q, r, p, ← values_twice) (then_left value_facts (staged_by C w) _ (staged_by I w₁) _ (valued_by C I W) (no_values C I W) _
      (λ x. stage IndexCheck sheet (room_in sheet I W) (length_facts sheet x)) _ e₁ e₂
      (λ x left h o m. ap (λ (s : _). s left) (index_same sheet (room_cleared (code_count sheet) I W c_zero) (lengths_in lk') (length_facts sheet x)
      (lengths (ap (λ (r : Outcome). is_err r) o) x (output_stored sheet accepted C w (lengths_in lk) begun x left h m)).read)) both_ended one_refused)

-- ---- what the first two left

pub valued_same : {a b c d : Counts} {t u x y : Table} {v w : Scratch} → valued a c t x v ≡ valued b d u y w → (a ≡ b) × (c ≡ d) × (t ≡ u) × (x ≡ y) × (v ≡ w)
valued_same e = (
  ap (λ (n : ValuesLeft). n.constant_counts) e,
  ap (λ (n : ValuesLeft). n.index_counts) e,
  ap (λ (n : ValuesLeft). n.constants) e,
  ap (λ (n : ValuesLeft). n.index) e,
  ap (λ (n : ValuesLeft). n.scratch) e,
)

-- the scratch is zero again
pub values_clear : (C I : Table) (W : Scratch) (spent : Spent ValueFacts) {outcome : Outcome} {n₁ n₂ : Counts} {c i : Table} {w : Scratch}
    → some (leaves outcome (valued n₁ n₂ c i w)) ≡ leaves_of (valued_by C I W) (no_values C I W) spent → w ≡ zero_scratch W
unfolding valued_by no_values
values_clear C I W spent e = left_same (valued_by C I W) _ (λ (n : ValuesLeft). n.scratch) (zero_scratch W) (λ v. refl) refl spent e

-- ---- what all three leave

record CallLeft : Type 0 where
  constant : Counts
  index : Counts
  container : Counts
  lent : Lent

abbrev called : Counts → Counts → Counts → Lent → CallLeft
called constant index container lent = record { constant = constant; index = index; container = container; lent = lent }

abbrev all_facts : ValueFacts → Analysed → Facts
all_facts v k = record { constants = v.constants; index = v.index; containers = k }

module _ (sheet : List ℕ) {sizes : Sizes} (accepted : Accepted sheet sizes) (budget : VerifierResources) (C I K : Table) (W : Scratch)
    (wide : local_slots sheet ≤ length W.marks) (deep : local_slots sheet ≤ length W.stack) where
  abbrev L : Lent
  L = lent C I K W

  abbrev filled_by : Facts → CallLeft
  filled_by f =
      called (counts f.constants) (counts f.index) (counts f.containers)
      (lent (filled_table (tables f.constants) C) (filled_table (tables f.index) I) (filled_table (tables f.containers) K) (zero_scratch W))

  abbrev zero_all : Lent
  zero_all = lent (zero_table C) (zero_table I) (zero_table K) (zero_scratch W)

  -- questions 1 to 6 were answered with yes
  analyzed_is : analyzed sheet budget L ≡ result_of budget L (call_end (analyses sheet (table_room sheet L) budget))
  unfolding analyzed call after_five after_six closure_room
  analyzed_is = rw (accepted.accepted, le-leb (local_slots sheet) (length W.marks) wide, le-leb (local_slots sheet) (length W.stack) deep)

  -- the answer and all that is lent, by how the analyses end
  answered : (spent : Spent Facts) {o : Outcome} {n₁ n₂ n₃ : Counts} {l : Lent} → some (leaves o (called n₁ n₂ n₃ l)) ≡ leaves_of filled_by (called n₁ n₂ n₃ zero_all) spent
      → some (call_result (answer_of o n₁ n₂ n₃) l) ≡ result_of budget L (call_end spent)
  unfolding result_of call_end lent_after scratch_zero zero_scratch answer answer_of refused_by
  answered spent {o} {n₁} {n₂} {n₃} {l} e = go (left_by _ _ spent e)
    where
      quit : (refusal : Refusal) (left : VerifierResources) → spent ≡ stop refusal left → o ≡ Err (refused_by refusal left) → l ≡ zero_all
          → some (call_result (answer_of o n₁ n₂ n₃) l) ≡ result_of budget L (call_end spent)
      quit (over_budget stage requested remaining) left h p q = rw (h, p, q)
      quit no_room left h p q = rw (h, p, q)

      go : Left filled_by (called n₁ n₂ n₃ zero_all) spent o (called n₁ n₂ n₃ l) → some (call_result (answer_of o n₁ n₂ n₃) l) ≡ result_of budget L (call_end spent)
      go (covered f left h p m) =
          rw (h, p, ap (λ (x : CallLeft). x.constant) m, ap (λ (x : CallLeft). x.index) m, ap (λ (x : CallLeft). x.container) m, ap (λ (x : CallLeft). x.lent) m)
      go (stopped refusal left h p m) = quit refusal left h p (ap (λ (x : CallLeft). x.lent) m)

  -- "Order: flow graph, dependencies, constants, index, containers.": the first two, then the third
  values_first : continue (λ v left. continue (λ k. give (all_facts v k)) (stage Container sheet (room_in sheet K W) (λ pc. unknown) left))
      (values sheet (room_in sheet C W) (room_in sheet I W) budget)
      ≡ analyses sheet (table_room sheet L) budget
  unfolding analyses values charge_graph table_room table_of ◌>>=◌ ◌>>◌ continue give
  values_first = simp continue_twice

  module _ (uk : List LengthFact) {o₂ o₃ : Outcome} {n₁ n₂ n₃ : Counts} {c₂ i₂ k₁ : Table} {w₂ w₃ : Scratch}
      (e₂ : some (leaves o₂ (valued n₁ n₂ c₂ i₂ w₂)) ≡ leaves_of (valued_by C I W) (no_values C I W) (values sheet (room_in sheet C W) (room_in sheet I W) budget))
      (e₃ : StageEnds Container sheet (lengths_in uk) o₂ K w₂ o₃ (staged n₃ k₁ w₃))
      (same : SameLengths c₂ C) (same' : SameLengths i₂ I) where
    w₂_zero : w₂ ≡ zero_scratch W
    w₂_zero = values_clear C I W _ e₂

    w₃_zero : w₃ ≡ zero_scratch W
    w₃_zero = still_clear K W w₂_zero _ e₃

    all_ended : (v : ValueFacts) (k : Analysed) → is_err o₃ ≡ false → valued n₁ n₂ c₂ i₂ w₂ ≡ valued_by C I W v → staged n₃ k₁ w₃ ≡ staged_by K w₂ k
        → called n₁ n₂ n₃ (lent (table_if (is_err o₃) c₂) (table_if (is_err o₃) i₂) k₁ w₃) ≡ filled_by (all_facts v k)
    unfolding valued_by staged_by table_if
    all_ended v k goes p q = rw (goes, (valued_same p).0, (valued_same p).1, (valued_same p).2, (valued_same p).3, (staged_same q).0, (staged_same q).1, w₃_zero)

    any_refused : is_err o₃ ≡ true → staged n₃ k₁ w₃ ≡ staged no_counts (zero_table K) (zero_scratch w₂)
        → called n₁ n₂ n₃ (lent (table_if (is_err o₃) c₂) (table_if (is_err o₃) i₂) k₁ w₃) ≡ called n₁ n₂ n₃ zero_all
    unfolding table_if
    any_refused quit q = rw (quit, zero_same c₂ C same, zero_same i₂ I same', (staged_same q).1, w₃_zero)

    -- what `analyze_indexed` promises, from what the functions that it calls promise
    pub call_promise : {given : Answer} {c₃ i₃ : Table} {z : Bool} → z ≡ is_err o₃ → c₃ ≡ table_if z c₂ → i₃ ≡ table_if z i₂ → given ≡ answer_of o₃ n₁ n₂ n₃
        → some (call_result given (lent c₃ i₃ k₁ w₃)) ≡ analyzed sheet budget (lent C I K W)
    call_promise p q r a =
        rw (a, q, r, p, analyzed_is, ← values_first) (answered _ (then_left all_facts (valued_by C I W) _ (staged_by K w₂) _ filled_by _ _
        (λ v. stage Container sheet (room_in sheet K W) (λ pc. unknown)) _ e₂ e₃
        (λ v left h o m. ap (λ (s : _). s left) (containers_same sheet (room_cleared (code_count sheet) K W w₂_zero) (lengths_in uk) (λ pc. unknown))) all_ended any_refused))

-- demand 3 of an answer with facts
pub demanded : (sheet : List ℕ) (budget : VerifierResources) (before : Lent) (given : Answer) (after : Lent) → some (call_result given after) ≡ analyzed sheet budget before
    → (constant index container : Counts) (left : VerifierResources) → given ≡ Analyzed constant index container left → LentDemand sheet budget before constant index container left after
demanded sheet budget before given after e constant index container left is =
    analyzed_demand sheet budget before constant index container left after (ap (λ (x : Answer). some (call_result x after)) (sym is) ∙ e)
