-- Questions 1 to 6, as the code asks them.
-- Assumes nothing.
use mathlib.Core.Path.{◌≡◌, refl, sym, ap, ◌∙◌}
use mathlib.Core.Bool.{Bool, true, false, ◌&&◌}
use mathlib.Core.List.{List}
use mathlib.Core.Logic.{◌⊎◌, inl, inr}
use mathlib.Core.Option.{none, some}
use Rattle.std.specs.Prelude.{Result, Ok, Err}
use Prim.Native.Nat.{ℕ, ◌≤◌, ◌<◌}
use lib.Dec.{leb}
use lib.ListN.{length}
use borrow.Author.Tests.{le-leb, lt-leb, leb-true}
use Rattle.model.specs.Sheet.{local_slots, sheet_refusal}
use Rattle.model.specs.Call.{Lent, closure_room, after_six, after_five, call, answer, lent_after, call_result, result_of, analyzed}
use Rattle.model.specs.declared.VerifierResources.{VerifierResources}
use Rattle.model.specs.declared.Answer.TheVariants.{Invalid}
use Rattle.model.proofs.Tests.{both}
use Rattle.sheet_fields.specs.declared.Sheet.{Sheet}
use Rattle.sheet_questions.specs.Check.{sheet_check, sized}
use Rattle.sheet_questions.proofs.FirstRefusal.{accepted, refused}
use Rattle.sheet.proofs.SizeNames.{counted}
use Rattle.sheet.specs.Measured.{Accepted}
use Rattle.sheet.specs.declared.Sizes.{Sizes}
use Rattle.sheet_questions.specs.Admitted.{admitted_if, asked_last, admission}
use Rattle.model.specs.declared.Question.{Question}
use Rattle.model.specs.declared.Question.TheVariants.{ClosureRoom}

-- ---- as the code asks them

module _ (sheet : List ℕ) (marks stack : ℕ) where
  pub refused_before : {question : Question} → Err question ≡ sheet_check sheet → Err question ≡ admission sheet marks stack
  unfolding admission asked_last
  refused_before c = rw (← c)

  module _ {sizes : Sizes} (c : Ok sizes ≡ sheet_check sheet) where
    pub too_few_marks : marks < sizes.local_slots → Err ClosureRoom ≡ admission sheet marks stack
    unfolding admission asked_last admitted_if
    too_few_marks h = rw (← c, lt-leb _ marks h)

    pub too_short : sizes.local_slots ≤ marks → stack < sizes.local_slots → Err ClosureRoom ≡ admission sheet marks stack
    unfolding admission asked_last admitted_if
    too_short h k = rw (← c, le-leb _ marks h, lt-leb _ stack k)

    pub wide_enough : sizes.local_slots ≤ marks → sizes.local_slots ≤ stack → Ok sizes ≡ admission sheet marks stack
    unfolding admission asked_last admitted_if
    wide_enough h k = rw (← c, le-leb _ marks h, le-leb _ stack k)

-- ---- what the answer says

module _ (sheet : List ℕ) (marks stack : ℕ) {given : Result Sizes Question} (e : given ≡ admission sheet marks stack) where
  abbrev roomy : Bool
  roomy = leb (local_slots sheet) marks && leb (local_slots sheet) stack

  same_room : {sizes : Sizes} {b : Bool} → Accepted sheet sizes → leb sizes.local_slots marks && leb sizes.local_slots stack ≡ b → roomy ≡ b
  same_room a h = rw (← (counted a.are).local_slots_is) h

  admitted : {sizes : Sizes} → given ≡ Ok sizes → Accepted sheet sizes × (roomy ≡ true)
  unfolding admission
  admitted {sizes} c = go (sheet_check sheet) refl (sym c ∙ e)
    where
      six : (b : Bool) {s : Sizes} → Ok sizes ≡ admitted_if b s → (sizes ≡ s) × (b ≡ true)
      six true p = unfold admitted_if in (cc, refl)
      six false p = unfold admitted_if in (absurd (cc))

      go : (q : Result Sizes Question) → sheet_check sheet ≡ q → Ok sizes ≡ asked_last q marks stack → Accepted sheet sizes × (roomy ≡ true)
      go (Ok s) h p = unfold asked_last in (let x = six _ p in let a = accepted sheet (sym h) in (rw x.0 a, same_room a x.1))
      go (Err n) h p = unfold asked_last in (absurd (cc))

  pub admitted_lengths : {sizes : Sizes} → given ≡ Ok sizes → Accepted sheet sizes × (local_slots sheet ≤ marks) × (local_slots sheet ≤ stack)
  admitted_lengths c =
      let a = admitted c in
      let room = both (leb (local_slots sheet) marks) _ a.1 in
      (a.0, leb-true _ _ room.0, leb-true _ _ room.1)

  -- one of the questions 1 to 5 refuses, or 6 does
  pub refused_by_lem : {question : Question} → given ≡ Err question → (sheet_refusal sheet ≡ some question) ⊎ ((sheet_refusal sheet ≡ none) × (roomy ≡ false) × (question ≡ ClosureRoom))
  unfolding admission
  refused_by_lem {question} c = go (sheet_check sheet) refl (sym c ∙ e)
    where
      six : (b : Bool) (s : Sizes) → Err question ≡ admitted_if b s → (b ≡ false) × (question ≡ ClosureRoom)
      six true s p = unfold admitted_if in (absurd (cc))
      six false s p = unfold admitted_if in (let q : question ≡ ClosureRoom = cc in (refl, q))

      go : (q : Result Sizes Question) → sheet_check sheet ≡ q → Err question ≡ asked_last q marks stack → (sheet_refusal sheet ≡ some question) ⊎ ((sheet_refusal sheet ≡ none) × (roomy ≡ false) × (question ≡ ClosureRoom))
      go (Ok s) h p = unfold asked_last in (let x = six _ s p in let a = accepted sheet (sym h) in inr (a.accepted, same_room a x.0, x.1))
      go (Err n) h p = unfold asked_last in (let q : question ≡ n = cc in inl (refused sheet (sym h) ∙ ap some (sym q)))

-- what it says of the sheet that is given, made of the bytes
pub admitted_sheet : (bytes : List ℕ) (marks stack : ℕ) (sheet : Sheet) → sized (Ok sheet) ≡ admission bytes marks stack → sheet.bytes.now ≡ bytes
    → Accepted sheet.bytes.now sheet.sizes × (local_slots sheet.bytes.now ≤ marks) × (local_slots sheet.bytes.now ≤ stack)
unfolding sized
admitted_sheet bytes marks stack sheet e is = rw is (admitted_lengths bytes marks stack e refl)

-- ---- what it says of the call

module _ (sheet : List ℕ) (lent : Lent) {given : Result Sizes Question} (e : given ≡ admission sheet (length lent.marks) (length lent.stack)) where
  -- "After 1 to 6 and 9 nothing lent changes .. and the budget stays."
  pub turned_away : (budget : VerifierResources) {question : Question} → given ≡ Err question → some (call_result (Invalid question budget) lent) ≡ analyzed sheet budget lent
  unfolding analyzed call closure_room after_five after_six result_of answer lent_after
  turned_away budget {question} c = go (refused_by_lem sheet _ _ e c)
    where
      go : (sheet_refusal sheet ≡ some question) ⊎ ((sheet_refusal sheet ≡ none) × (roomy sheet (length lent.marks) (length lent.stack) e ≡ false) × (question ≡ ClosureRoom))
          → some (call_result (Invalid question budget) lent) ≡ analyzed sheet budget lent
      go (inl h) = rw h
      go (inr h) = rw (h.0, h.1, h.2)
