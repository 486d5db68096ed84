-- The ranges of what an instruction writes, as the code reads them, one after the other.
-- Assumes nothing.
use mathlib.Core.Path.{◌≡◌, refl, sym, ap, ◌∙◌}
use mathlib.Core.Bool.{Bool, true, false, ◌||◌, or-true, or-false, or_assoc}
use mathlib.Core.List.{List}
use mathlib.Core.Logic.{◌⊎◌, inl, inr}
use Prim.Native.Nat.{ℕ, zero, suc, ◌+◌, ◌≤◌, ◌<◌}
use native.Mathlib.Nat.{le_of_suc-le-suc, eq-or-lt_of_le}
use native.Mathlib.Numerals.{add-one}
use native.Mathlib.Omega.{arith}
use Rattle.model.specs.Sheet.{range_start, range_length}
use Rattle.model.specs.Written.{in_range, in_ranges}
use Rattle.transfer_written.specs.Ranges.{holds_slot, slot_range_count, slot_range}
use Rattle.transfer_written.specs.declared.SlotRange.{SlotRange}
use Rattle.transfer_written.specs.declared.Written.{Written}
use Rattle.transfer_written.specs.declared.Written.TheVariants.{Span, Ranges}

-- ---- the first i of them

-- whether a slot is in one of the first i ranges
unfoldable pub among : Written → List ℕ → ℕ → ℕ → Bool
among w sheet zero slot = false
among w sheet (suc i) slot = among w sheet i slot || in_range slot (slot_range w sheet i).start (slot_range w sheet i).count

pub ranges_suc : (sheet : List ℕ) (slot first i : ℕ)
    → in_ranges sheet slot first (suc i) ≡ in_ranges sheet slot first i || in_range slot (range_start sheet (first + i)) (range_length sheet (first + i))
unfolding in_ranges
ranges_suc sheet slot first zero = let e : first + 0 ≡ first = omega arith in rw e (or-false _)
ranges_suc sheet slot first (suc i) =
    let e : first + suc i ≡ suc first + i = omega arith in
    rw e
    (ap (λ (t : Bool). in_range slot (range_start sheet first) (range_length sheet first) || t) (ranges_suc sheet slot (suc first) i)
    ∙ sym (or_assoc (in_range slot (range_start sheet first) (range_length sheet first)) (in_ranges sheet slot (suc first) i) _))

-- it is in one of all
pub among_all : (w : Written) (sheet : List ℕ) (slot : ℕ) → among w sheet (slot_range_count w) slot ≡ holds_slot w sheet slot
unfolding among slot_range_count slot_range holds_slot in_ranges
among_all (Span start count) sheet slot = refl
among_all (Ranges first count) sheet slot = go count
  where
    go : (i : ℕ) → among (Ranges first count) sheet i slot ≡ in_ranges sheet slot first i
    go zero = refl
    go (suc i) = ap (λ (t : Bool). t || in_range slot (range_start sheet (first + i)) (range_length sheet (first + i))) (go i) ∙ sym (ranges_suc sheet slot first i)

-- ---- asked one after the other, until one holds the slot

module _ (w : Written) (sheet : List ℕ) (slot : ℕ) where
  -- i of them do not
  pub record NoneHolds (i : ℕ) : Type 0 where
    pub within : i ≤ slot_range_count w
    pub none : among w sheet i slot ≡ false

  pub none_yet : NoneHolds 0
  unfolding among
  none_yet = record { within = omega arith; none = refl }

  hit : (n i : ℕ) → i < n → in_range slot (slot_range w sheet i).start (slot_range w sheet i).count ≡ true → among w sheet n slot ≡ true
  unfolding among
  hit zero i l e = absurd (omega arith)
  hit (suc n) i l e = go (eq-or-lt_of_le (le_of_suc-le-suc l)) (λ q. hit n i q e)
    where
      go : (i ≡ n) ⊎ (i < n) → (i < n → among w sheet n slot ≡ true) → among w sheet n slot || in_range slot (slot_range w sheet n).start (slot_range w sheet n).count ≡ true
      go (inl q) h = rw (← q, e) (or-true (among w sheet i slot))
      go (inr q) h = rw (h q)

  module _ (i : ℕ) {range : SlotRange} {r : Bool} (e : range ≡ slot_range w sheet i) (is : r ≡ in_range slot range.start range.count) where
    in_range_lem : r ≡ in_range slot (slot_range w sheet i).start (slot_range w sheet i).count
    in_range_lem = rw (← e) is

    pub none_more : NoneHolds i → i < slot_range_count w → r ≡ false → NoneHolds (i + 1)
    unfolding among
    none_more p h q = record { within = omega arith; none = rw (add-one i, p.none, ← in_range_lem) q }

    pub one_holds : i < slot_range_count w → r ≡ true → true ≡ holds_slot w sheet slot
    one_holds h q = sym (hit (slot_range_count w) i h (sym in_range_lem ∙ q)) ∙ among_all w sheet slot

  pub none_of_all : {i : ℕ} → NoneHolds i → slot_range_count w ≤ i → false ≡ holds_slot w sheet slot
  none_of_all {i} p h = let e : i ≡ slot_range_count w = omega (arith, p.within) in sym p.none ∙ rw e (among_all w sheet slot)
