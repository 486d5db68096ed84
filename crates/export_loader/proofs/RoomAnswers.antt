-- What a loader is room-told, by each way out of the functions.
-- Assumes nothing.
use mathlib.Core.Path.{◌≡◌, refl, sym, ap, ◌∙◌}
use mathlib.Core.Bool.{false, ◌&&◌}
use mathlib.Core.Logic.{◌⊎◌, inl, inr}
use mathlib.Core.List.{List, [], ◌∷◌}
use mathlib.Core.Option.{none, some}
use Prim.Native.Nat.{ℕ, ◌*◌, ◌≤◌, ◌<◌}
use native.Mathlib.Nat.{mul-le-mul}
use native.Mathlib.Omega.{arith}
use lib.Dec.{leb, ltb}
use lib.ListN.{length, set}
use borrow.Author.Tests.{le-leb, lt-leb, lt-ltb, le-ltb}
use Rattle.model.specs.Sheet.{code_count, local_slots, layout_count, question_number, sheet_refusal}
use Rattle.model.specs.Charges.{ok}
use Rattle.model.specs.Closure.{tracked_slots}
use Rattle.model.specs.Call.{zeros}
use Rattle.model.specs.Listing.{lowest}
use Rattle.model.specs.declared.VerifierResources.{VerifierResources}
use Rattle.model.specs.declared.AnalysisKind.{AnalysisKind}
use Rattle.model.specs.declared.AnalysisKind.TheVariants.{Constant, IndexCheck, Container}
use Rattle.std.specs.Prelude.{Ok, Err}
use Rattle.budget.specs.Outcome.{Outcome, leaves, leaves_of}
use Rattle.budget.proofs.Outcomes.{Left, covered, stopped, left_by}
use Rattle.sheet.specs.Measured.{Measured}
use Rattle.sheet.specs.declared.Sizes.{Sizes}
use Rattle.sheet.proofs.SizeNames.{counted}
use Rattle.sheet.proofs.SizeLimits.{limited}
use Rattle.sheet_questions.specs.Check.{sheet_check}
use Rattle.sheet_questions.specs.Admitted.{admission}
use Rattle.model.specs.declared.Question.{Question}
use Rattle.model.specs.declared.Question.TheVariants.{ClosureRoom}
use Rattle.sheet_questions.proofs.FirstRefusal.{accepted, refused}
use Rattle.sheet_questions.proofs.AdmissionTests.{admitted_lengths, refused_by_lem}
use Rattle.closure.specs.Closed.{Closed, closed, closed_by}
use Rattle.finality.proofs.Lengths.{zeros_length, zeros_same}
use Rattle.model.specs.Interface.{looked, in_front}
use Rattle.model.specs.Room.{closure_slots, room, room_numbers, room_if, room_after_five, room_of, lowest_if, lowest_after_five, lowest_of}
use Rattle.export_loader.proofs.Unlimited.{slots_given}

-- ---- the s of one analysis

-- From enough: 3 bytes for each of 65,535 slots, and the work of 2 edges for each of them and each of 4,096 instructions.
pub counted_slots : (which : AnalysisKind) (sheet : List ℕ) (budget : VerifierResources) {sizes : Sizes} (old : List ℕ) {outcome : Outcome} {s : ℕ} {slots : List ℕ}
    → some (leaves outcome (closed s slots)) ≡ leaves_of (closed_by old) (closed 0 old) (tracked_slots which sheet budget)
    → Measured sheet sizes → 196605 ≤ budget.bytes → 536862720 ≤ budget.work → s ≡ length (closure_slots which sheet)
counted_slots which sheet budget old {outcome} {s} {slots} e m bytes work =
    let n = counted m.are in
    let l = limited m in
    let p : local_slots sheet ≤ 65535 = omega (arith, n.local_slots_is, l.local_slots_is) in
    let q : 2 * code_count sheet ≤ 8192 = omega (arith, n.code_count_is, l.code_count_is) in
    let g = slots_given which sheet budget (omega arith) (omega (arith, mul-le-mul p q)) in
    go (left_by _ _ _ (rw g.is at e))
  where
    go : {left : VerifierResources} → Left (closed_by old) (closed 0 old) (ok (closure_slots which sheet) left) outcome (closed s slots) → s ≡ length (closure_slots which sheet)
    go (covered found rest c o k) = let same : found ≡ closure_slots which sheet = cc in ap (λ (x : Closed). x.s) k ∙ ap length same
    go (stopped refusal rest c o k) = let z : ◌≡◌ {A = ℕ} 0 1 = cc in absurd (omega arith)

-- marks and a stack that are as they were: as long, and zero
pub still_ready : {l : ℕ} {marks stack marks' stack' : List ℕ} → marks' ≡ marks → stack' ≡ stack
    → (l ≤ length marks) × (l ≤ length stack) × (marks ≡ zeros marks) × (stack ≡ zeros stack)
    → (l ≤ length marks') × (l ≤ length stack') × (marks' ≡ zeros marks') × (stack' ≡ zeros stack')
still_ready e f h = rw (e, f) h

-- marks or a stack that were cleared
module _ (old : List ℕ) {new : List ℕ} (e : new ≡ zeros old) where
  pub closure_cleared : new ≡ zeros new
  closure_cleared = e ∙ zeros_same old new (sym (ap length e ∙ zeros_length old))

  pub cleared_long : {l : ℕ} → l ≤ length old → l ≤ length new
  cleared_long h = omega (arith, ap length e, zeros_length old)

-- ---- the four numbers

pub four_told : (sheet : List ℕ) {n c i k : ℕ} → n ≡ code_count sheet → c ≡ length (closure_slots Constant sheet) → i ≡ length (closure_slots IndexCheck sheet)
    → k ≡ length (closure_slots Container sheet) → (out : List ℕ) → in_front (n ∷ c ∷ i ∷ k ∷ []) out ≡ in_front (room_numbers sheet) out
unfolding room_numbers
four_told sheet pn pc pi pk out = rw (pn, pc, pi, pk) refl

-- ---- the questions

module _ (sheet marks stack out : List ℕ) where
  pub out_too_short : length out < 4 → room 255 marks stack out ≡ room_of (leb 4 (length out)) sheet marks stack out
  unfolding room_of
  out_too_short h = rw (lt-leb 4 (length out) h) refl

  module _ (long : 4 ≤ length out) where
    pub room_refused : {question : Question} → Err question ≡ admission sheet (length marks) (length stack)
        → room (question_number question) marks stack out ≡ room_of (leb 4 (length out)) sheet marks stack out
    unfolding room_of room_after_five room_if
    room_refused e = rw (le-leb 4 (length out) long) (go (refused_by_lem sheet _ _ e refl))
      where
        go : {question : Question}
            → (sheet_refusal sheet ≡ some question) ⊎ ((sheet_refusal sheet ≡ none) × (leb (local_slots sheet) (length marks) && leb (local_slots sheet) (length stack) ≡ false) × (question ≡ ClosureRoom))
            → room (question_number question) marks stack out ≡ room_after_five (sheet_refusal sheet) sheet marks stack out
        go (inl h) = rw h
        go (inr h) = rw (h.0, h.1, h.2)

    -- all four room-told
    pub room_told : {sizes : Sizes} {marks' stack' out' : List ℕ} → Ok sizes ≡ admission sheet (length marks) (length stack) → marks' ≡ zeros marks
        → stack' ≡ zeros stack → out' ≡ in_front (room_numbers sheet) out → room 0 marks' stack' out' ≡ room_of (leb 4 (length out)) sheet marks stack out
    unfolding room_of room_after_five room_if
    room_told e p q o =
        let t = admitted_lengths sheet _ _ e refl in
        rw (le-leb 4 (length out) long, t.0.accepted, le-leb _ _ t.1, le-leb _ _ t.2, p, q, o) refl

-- ---- the lowest layout

module _ (sheet : List ℕ) (layout : ℕ) (out : List ℕ) where
  pub no_layout : layout_count sheet ≤ layout → looked 254 out ≡ lowest_if (ltb layout (layout_count sheet)) sheet layout out
  unfolding lowest_if
  no_layout h = rw (le-ltb layout (layout_count sheet) h) refl

  pub put_one : {low : ℕ} → layout < layout_count sheet → 1 ≤ length out → low ≡ lowest sheet layout
      → looked 0 (set out 0 low) ≡ lowest_if (ltb layout (layout_count sheet)) sheet layout out
  unfolding lowest_if
  put_one {low} h k e = rw (lt-ltb layout (layout_count sheet) h, e) (ap (looked 0) (go out k))
    where
      go : (old : List ℕ) → 1 ≤ length old → set old 0 (lowest sheet layout) ≡ in_front (lowest sheet layout ∷ []) old
      go [] z = absurd (omega arith)
      go (x ∷ xs) z = unfold in_front in refl

  pub no_entry : length out < 1 → looked 255 out ≡ lowest_of (leb 1 (length out)) sheet layout out
  unfolding lowest_of
  no_entry h = rw (lt-leb 1 (length out) h) refl

  module _ (long : 1 ≤ length out) where
    pub sheet_refused : {question : Question} → Err question ≡ sheet_check sheet → looked (question_number question) out ≡ lowest_of (leb 1 (length out)) sheet layout out
    unfolding lowest_of lowest_after_five
    sheet_refused e = rw (le-leb 1 (length out) long, refused sheet e)

    pub searched : {sizes : Sizes} {returned : ℕ} {out' : List ℕ} → Ok sizes ≡ sheet_check sheet
        → looked returned out' ≡ lowest_if (ltb layout (layout_count sheet)) sheet layout out → looked returned out' ≡ lowest_of (leb 1 (length out)) sheet layout out
    unfolding lowest_of lowest_after_five
    searched e p = rw (le-leb 1 (length out) long, (accepted sheet e).accepted) p
