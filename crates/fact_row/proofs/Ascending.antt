-- Strictly ascending slots: a search that halves, and the fact of a slot that it finds.
-- Assumes nothing.
use mathlib.Core.Path.{◌≡◌, refl, sym}
use mathlib.Core.Bool.{Bool, true, false, cond}
use mathlib.Core.List.{List, [], ◌∷◌}
use mathlib.Core.Logic.{◌⊎◌, inl, inr}
use Prim.Native.Nat.{ℕ, zero, suc, ◌+◌, ◌-◌, ◌*◌, ◌/◌, ◌<◌, ◌≤◌}
use native.Mathlib.Nat.{not-suc-le-zero, le_of_suc-le-suc, eq-or-lt_of_le}
use native.Mathlib.Omega.{arith}
use lib.Dec.{ltb, leb}
use lib.ListN.{length, get_or}
use mir.Val.{bool_byte}
use borrow.Author.Tests.{ltb-true, ltb-false, eq-eqb, ne_eqb, le-leb, lt-leb}
use Rattle.model.specs.Fact.{unknown, Row}
use Rattle.model.specs.Lookup.{ascends}
use Rattle.model.specs.Transfer.{fact_for}
use Rattle.fact_row.specs.Rows.{Bound}
use Rattle.model.proofs.Tests.{both_left, both_right}

-- each is above all before it
pub ascends_lt : (xs : List ℕ) → ascends xs ≡ true → (i j : ℕ) → i < j → j < length xs → get_or xs i 0 < get_or xs j 0
unfolding ascends
ascends_lt [] h i j l m = absurd (not-suc-le-zero m)
ascends_lt (x ∷ []) h i j l m = omega arith
ascends_lt (x ∷ y ∷ rest) h i zero l m = absurd (not-suc-le-zero l)
ascends_lt (x ∷ y ∷ rest) h zero (suc zero) l m = ltb-true x y (both_left _ _ h)
ascends_lt (x ∷ y ∷ rest) h zero (suc (suc j)) l m =
    omega (arith, ltb-true x y (both_left _ _ h), ascends_lt (y ∷ rest) (both_right (ltb x y) _ h) zero (suc j) (omega arith) (le_of_suc-le-suc m))
ascends_lt (x ∷ y ∷ rest) h (suc i) (suc j) l m = ascends_lt (y ∷ rest) (both_right (ltb x y) _ h) i j (le_of_suc-le-suc l) (le_of_suc-le-suc m)

-- ---- a search that halves

-- the slots before base lie below the given one, those from base + size on above it
pub record Halved (xs : List ℕ) (slot base size : ℕ) : Type 0 where
  pub some : 1 ≤ size
  pub within : base + size ≤ length xs
  pub below : (k : ℕ) → k < base → get_or xs k 0 < slot
  pub above : (k : ℕ) → base + size ≤ k → k < length xs → slot < get_or xs k 0

module _ {xs : List ℕ} {slot base size : ℕ} (b : Halved xs slot base size) (h : ascends xs ≡ true) (more : 1 < size) where
  halved_by : (t : Bool) → ltb slot (get_or xs (base + size / 2) 0) ≡ t → Halved xs slot (cond t base (base + size / 2)) (size - size / 2)
  halved_by true e = record {
    some = omega arith;
    within = omega (arith, b.within);
    below = b.below;
    above = λ k m u. let l : base + size / 2 ≤ k = omega arith in from k u (eq-or-lt_of_le l);
  }
    where
      from : (k : ℕ) → k < length xs → (base + size / 2 ≡ k) ⊎ (base + size / 2 < k) → slot < get_or xs k 0
      from k u (inl q) = rw (sym q) (ltb-true slot (get_or xs (base + size / 2) 0) e)
      from k u (inr q) = omega (arith, ascends_lt xs h (base + size / 2) k q u, ltb-true slot (get_or xs (base + size / 2) 0) e)
  halved_by false e = record {
    some = omega arith;
    within = omega (arith, b.within);
    below = λ k m. omega (arith, ascends_lt xs h k (base + size / 2) m (omega (arith, b.within)), ltb-false slot (get_or xs (base + size / 2) 0) e);
    above = λ k m u. b.above k (omega arith) u;
  }

  pub halved : {r t : ℕ} → t ≡ get_or xs (base + size / 2) 0 → r ≡ cond (ltb slot t) base (base + size / 2) → Halved xs slot r (size - size / 2)
  halved p e = rw (e, p) (halved_by _ refl)

-- a product with 0 or 1 chooses the half
pub times_le : (half : ℕ) (t : Bool) → half * bool_byte t ≤ half
times_le half true = omega arith
times_le half false = omega arith

pub half_stepped : (slot t base half : ℕ) → base + half * bool_byte (leb t slot) ≡ cond (ltb slot t) base (base + half)
half_stepped slot t base half = go (ltb slot t) refl
  where
    go : (u : Bool) → ltb slot t ≡ u → base + half * bool_byte (leb t slot) ≡ cond u base (base + half)
    go true e = rw (lt-leb t slot (ltb-true slot t e)) (omega arith)
    go false e = rw (le-leb t slot (ltb-false slot t e)) (omega arith)

-- ---- a slot that is not among them

module _ {xs : List ℕ} {slot at : ℕ} (b : Bound xs slot at) where
  pub none_past : length xs ≤ at → (i : ℕ) → i < length xs → get_or xs i 0 ≡ slot → ⊥
  none_past h i m q = omega (arith, b.below i (omega arith))

  pub none_between : ascends xs ≡ true → at < length xs → (get_or xs at 0 ≡ slot → ⊥) → (i : ℕ) → i < length xs → get_or xs i 0 ≡ slot → ⊥
  none_between h l other i m q = apart (ltb i at) refl (ltb at i) refl
    where
      apart : (t : Bool) → ltb i at ≡ t → (u : Bool) → ltb at i ≡ u → ⊥
      apart true e u f = omega (arith, b.below i (ltb-true i at e))
      apart false e true f = omega (arith, b.above at (omega arith) l, ascends_lt xs h at i (ltb-true at i f) m)
      apart false e false f = let z : i ≡ at = omega (arith, ltb-false i at e, ltb-false at i f) in other (rw z at q)

-- ---- the fact of a slot

pub fact_at : (xs : List ℕ) (row : Row) (slot k : ℕ) → length row ≡ length xs → k < length xs → get_or xs k 0 ≡ slot
    → ((i : ℕ) → i < k → get_or xs i 0 ≡ slot → ⊥) → fact_for xs row slot ≡ get_or row k unknown
unfolding fact_for
fact_at [] row slot k n l e b = absurd (not-suc-le-zero l)
fact_at (x ∷ xs) [] slot k n l e b = refl
fact_at (x ∷ xs) (f ∷ fs) slot zero n l e b = rw (eq-eqb slot x (sym e))
fact_at (x ∷ xs) (f ∷ fs) slot (suc k) n l e b =
    rw (ne_eqb slot x (λ q. b 0 (omega arith) (sym q)))
    (fact_at xs fs slot k (omega arith) (le_of_suc-le-suc l) e (λ i m q. b (suc i) (omega arith) q))

pub fact_nowhere : (xs : List ℕ) (row : Row) (slot : ℕ) → ((i : ℕ) → i < length xs → get_or xs i 0 ≡ slot → ⊥) → fact_for xs row slot ≡ unknown
unfolding fact_for
fact_nowhere [] row slot b = refl
fact_nowhere (x ∷ xs) [] slot b = refl
fact_nowhere (x ∷ xs) (f ∷ fs) slot b =
    rw (ne_eqb slot x (λ q. b 0 (omega arith) (sym q)))
    (fact_nowhere xs fs slot (λ i m q. b (suc i) (omega arith) q))
