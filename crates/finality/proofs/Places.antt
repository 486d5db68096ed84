-- The places of the marks that are set: they ascend, and there is one for each such mark.
-- Assumes nothing.
use mathlib.Core.Path.{◌≡◌, refl, sym}
use mathlib.Core.Bool.{Bool, true, false, false≢true}
use mathlib.Core.Logic.{inl, inr}
use mathlib.Core.List.Memᴰ.{cases_cons}
use mathlib.Core.List.Memᴰ.{head}
use mathlib.Core.List.Memᴰ.{not-nil}
use mathlib.Core.List.Memᴰ.{tail}
use mathlib.Core.List.{List, [], ◌∷◌, Memᴰ as Member}
use Prim.Native.Nat.{ℕ, zero, suc, ◌+◌, ◌<◌}
use native.Mathlib.Omega.{arith}
use lib.Dec.{eqb}
use borrow.Author.Tests.{lt-ltb}
use Rattle.model.specs.Closure.{list_unless, places}
use Rattle.model.specs.Lookup.{ascends}
use Rattle.finality.proofs.Marks.{IsSet}

-- behind a smaller number they ascend
cons_ascends : (x i : ℕ) (ms : List ℕ) → x < i → ascends (x ∷ places i ms) ≡ true
unfolding ascends places list_unless
cons_ascends x i [] h = refl
cons_ascends x i (m ∷ ms) h = go (cons_ascends x (suc i) ms (omega arith)) (cons_ascends i (suc i) ms (omega arith)) (eqb m 0)
  where
    go : ascends (x ∷ places (suc i) ms) ≡ true → ascends (i ∷ places (suc i) ms) ≡ true → (b : Bool) → ascends (x ∷ list_unless b i (places (suc i) ms)) ≡ true
    go passed put true = passed
    go passed put false = rw (lt-ltb x i h) put

pub places_ascend : (i : ℕ) (ms : List ℕ) → ascends (places i ms) ≡ true
unfolding ascends places list_unless
places_ascend i [] = refl
places_ascend i (m ∷ ms) = go (places_ascend (suc i) ms) (eqb m 0)
  where
    go : ascends (places (suc i) ms) ≡ true → (b : Bool) → ascends (list_unless b i (places (suc i) ms)) ≡ true
    go passed true = passed
    go passed false = cons_ascends i (suc i) ms (omega arith)

-- a place is that of a mark that is set
pub places_only : (i : ℕ) (ms : List ℕ) (x : ℕ) → Member x (places i ms) → (k : ℕ) × (x ≡ i + k) × IsSet ms k
unfolding places list_unless
places_only i [] x m = absurd (not-nil m)
places_only i (y ∷ ys) x m = go (λ l. places_only (suc i) ys x l) (eqb y 0) refl m
  where
    later : (k : ℕ) × (x ≡ suc i + k) × IsSet ys k → (k : ℕ) × (x ≡ i + k) × IsSet (y ∷ ys) k
    later r = (suc r.0, omega (arith, r.1), r.2)

    go : (Member x (places (suc i) ys) → (k : ℕ) × (x ≡ suc i + k) × IsSet ys k)
        → (b : Bool) → eqb y 0 ≡ b → Member x (list_unless b i (places (suc i) ys)) → (k : ℕ) × (x ≡ i + k) × IsSet (y ∷ ys) k
    go rest true e k = later (rest k)
    go rest false e k = elim (cases_cons k) [ inl w ↦ (0, omega arith, e) | inr l ↦ later (rest l) ]

-- and each such mark has one
pub places_all : (i : ℕ) (ms : List ℕ) (k : ℕ) → IsSet ms k → Member (i + k) (places i ms)
unfolding places list_unless
places_all i [] k e = absurd (false≢true (sym e))
places_all i (y ∷ ys) zero e = rw e (head {x = i} (omega arith))
places_all i (y ∷ ys) (suc k) e = let same : suc i + k ≡ i + suc k = omega arith in go (eqb y 0) (rw same at (places_all (suc i) ys k e))
  where
    go : (b : Bool) → Member (i + suc k) (places (suc i) ys) → Member (i + suc k) (list_unless b i (places (suc i) ys))
    go true m = m
    go false m = tail m
