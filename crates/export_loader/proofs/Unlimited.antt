-- The closure without a budget is the closure with any that is enough, and 2^64 − 1 of each always is.
-- Assumes nothing.
use mathlib.Core.Path.{◌≡◌, refl, sym, ap, ◌∙◌}
use mathlib.Core.List.{List, [], ◌∷◌}
use Prim.Native.Nat.{ℕ, zero, suc, ◌+◌, ◌*◌, ◌-◌, ◌≤◌}
use native.Mathlib.Omega.{arith}
use lib.ListN.{length}
use borrow.Author.Tests.{le-leb}
use Rattle.model.specs.Sheet.{code_count, local_slots}
use Rattle.model.specs.Charges.{Spent, ok, Metered, give, give_up, continue, ◌>>=◌, ◌>>◌, charge_bytes, bytes_charged, charge_work, work_charged, in_stage, spend_bytes, spend_work}
use Rattle.model.specs.Dependencies.{dependency_bit, edges_to}
use Rattle.model.specs.Closure.{Marked, follow, seeded, take_slot, expand, places, tracked_slots, stage_number}
use Rattle.model.specs.declared.VerifierResources.{VerifierResources}
use Rattle.model.specs.declared.AnalysisKind.{AnalysisKind}
use Rattle.model.proofs.Metered.{then_parts, bound_parts, given}
use Rattle.finality.proofs.Marks.{weight}
use Rattle.finality.proofs.Closure.{follow_weight, seeded_weight}
use Rattle.model.specs.Room.{take_free, expand_free, closure_slots}
use Rattle.export_loader.proofs.EdgeBound.{edges_few}

module _ (which : AnalysisKind) (sheet : List ℕ) where
  -- ---- whatever the budget

  take_same : (ds : List ℕ) (go : Marked → Metered Marked) (free : Marked → Marked) (m : Marked) (budget : VerifierResources) (out : Marked) (left : VerifierResources)
      → ((m' : Marked) (rest : VerifierResources) → go m' rest ≡ ok out left → out ≡ free m')
      → take_slot which sheet ds go m budget ≡ ok out left → out ≡ take_free which sheet ds free m
  unfolding take_slot take_free
  take_same [] go free m budget out left later e = sym (given m budget e)
  take_same (d ∷ ds) go free m budget out left later e = let p = then_parts e in later _ p.rest p.after

  take_none : (m : Marked) (ds : List ℕ) → take_free which sheet ds (λ m'. m) m ≡ m
  unfolding take_free
  take_none m [] = refl
  take_none m (d ∷ ds) = refl

  expand_same : (fuel : ℕ) (m : Marked) (budget : VerifierResources) (out : Marked) (left : VerifierResources)
      → expand which sheet fuel m budget ≡ ok out left → out ≡ expand_free which sheet fuel m
  unfolding expand expand_free give_up
  expand_same zero m budget out left e =
      take_same m.stack (λ m'. give_up) (λ m'. m) m budget out left (λ m' rest k. let z : ◌≡◌ {A = ℕ} 0 1 = cc in absurd (omega arith)) e ∙ take_none m m.stack
  expand_same (suc fuel) m budget out left e =
      take_same m.stack (λ m'. expand which sheet fuel m') (λ m'. expand_free which sheet fuel m') m budget out left
      (λ m' rest k. expand_same fuel m' rest out left k) e

  -- where the closure ends, it gives the slots of the closure without a budget
  pub slots_same : (budget : VerifierResources) (slots : List ℕ) (left : VerifierResources) → tracked_slots which sheet budget ≡ ok slots left
      → slots ≡ closure_slots which sheet
  unfolding tracked_slots closure_slots
  slots_same budget slots left e =
      let marks = then_parts e in
      let stack = then_parts marks.after in
      let loop = bound_parts stack.after in
      sym (given (places 0 loop.a.marks) loop.rest loop.after)
      ∙ ap (λ (m : Marked). places 0 m.marks) (expand_same (local_slots sheet) (seeded which sheet) stack.rest loop.a loop.rest loop.before)

  -- ---- a budget that is enough

  -- a part that gives a from a budget
  pub record Gives {A : Type 0} (spent : Spent A) (a : A) : Type 0 where
    pub left : VerifierResources
    pub is : spent ≡ ok a left

  work_covered : (stage amount : ℕ) (budget : VerifierResources) → amount ≤ budget.work
      → spend_work stage amount budget ≡ ok tt (record { bytes = budget.bytes; work = budget.work - amount })
  unfolding spend_work charge_work work_charged in_stage
  work_covered stage amount budget h = rw (le-leb amount budget.work h) refl

  bytes_covered : (stage amount : ℕ) (budget : VerifierResources) → amount ≤ budget.bytes
      → spend_bytes stage amount budget ≡ ok tt (record { bytes = budget.bytes - amount; work = budget.work })
  unfolding spend_bytes charge_bytes bytes_charged in_stage
  bytes_covered stage amount budget h = rw (le-leb amount budget.bytes h) refl

  take_gives : (ds : List ℕ) (go : Marked → Metered Marked) (free : Marked → Marked) (m : Marked) (budget : VerifierResources) (turns : ℕ)
      → length ds ≤ turns → turns * (2 * code_count sheet) ≤ budget.work
      → ((d : ℕ) (rest : List ℕ) (left : VerifierResources) → ds ≡ d ∷ rest → turns * (2 * code_count sheet) ≤ left.work + 2 * code_count sheet
      → let m' = follow (dependency_bit which) (edges_to sheet d) (record { marks = m.marks; stack = rest }) in Gives (go m' left) (free m'))
      → Gives (take_slot which sheet ds go m budget) (take_free which sheet ds free m)
  unfolding take_slot take_free give ◌>>◌ continue
  take_gives [] go free m budget turns h k later = record { left = budget; is = refl }
  take_gives (d ∷ ds) go free m budget zero h k later = absurd (omega arith)
  take_gives (d ∷ ds) go free m budget (suc turns) h k later =
      let few = edges_few sheet d in
      let paid = work_covered (stage_number which) (length (edges_to sheet d)) budget (omega arith) in
      let next = later d ds (record { bytes = budget.bytes; work = budget.work - length (edges_to sheet d) }) refl (omega arith) in
      record { left = next.left; is = rw paid next.is }

  expand_gives : (fuel : ℕ) (m : Marked) (budget : VerifierResources) → weight m ≤ fuel → fuel * (2 * code_count sheet) ≤ budget.work
      → Gives (expand which sheet fuel m budget) (expand_free which sheet fuel m)
  unfolding expand expand_free weight
  expand_gives zero m budget h k =
      rw (take_none m m.stack) at (take_gives m.stack (λ m'. give_up) (λ m'. m) m budget 0 (omega arith) k (λ d rest left e w. let l : length m.stack ≡ suc (length rest) = ap length e in absurd (omega arith)))
  expand_gives (suc fuel) m budget h k =
      take_gives m.stack (λ m'. expand which sheet fuel m') (λ m'. expand_free which sheet fuel m') m budget (suc fuel) (omega arith) k
      (λ d rest left e w.
      let l : length m.stack ≡ suc (length rest) = ap length e in
      let f = follow_weight which sheet (dependency_bit which) (edges_to sheet d) (record { marks = m.marks; stack = rest }) in
      expand_gives fuel _ left (omega arith) (omega arith))

  -- from enough, the closure gives its slots
  pub slots_given : (budget : VerifierResources) → 3 * local_slots sheet ≤ budget.bytes → local_slots sheet * (2 * code_count sheet) ≤ budget.work
      → Gives (tracked_slots which sheet budget) (closure_slots which sheet)
  unfolding tracked_slots closure_slots ◌>>◌ ◌>>=◌ continue give
  slots_given budget h k =
      let one = bytes_covered (stage_number which) (local_slots sheet * 1) budget (omega arith) in
      let two = bytes_covered (stage_number which) (local_slots sheet * 2) (record { bytes = budget.bytes - local_slots sheet * 1; work = budget.work }) (omega arith) in
      let loop = expand_gives (local_slots sheet) (seeded which sheet) (record { bytes = budget.bytes - local_slots sheet * 1 - local_slots sheet * 2; work = budget.work }) (omega (arith, seeded_weight which sheet)) k in
      record { left = loop.left; is = rw (one, two, loop.is) refl }
