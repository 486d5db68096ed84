-- Strictly ascending slots: what a test of all neighbours shows.
-- Assumes nothing.
use mathlib.Core.Path.{◌≡◌, refl, sym}
use mathlib.Core.Bool.{Bool, true, false}
use mathlib.Core.List.{List, [], ◌∷◌}
use Prim.Native.Nat.{ℕ, suc, ◌+◌, ◌<◌}
use native.Mathlib.Omega.{arith}
use native.Mathlib.Numerals.{add-one}
use lib.Dec.{ltb}
use lib.ListN.{length, get_or}
use borrow.Author.Tests.{lt-ltb, ltb-true, ltb-false}
use Rattle.std.specs.List.{IsAllAdjacentAnswer}
use Rattle.model.specs.Lookup.{ascends}
use Rattle.fact_row.proofs.Ascending.{ascends_lt}

-- each of the first i but the first is above the one before it
abbrev pub Rising : List ℕ → ℕ → Type 0
Rising xs i = (k : ℕ) → suc k < i → get_or xs k 0 < get_or xs (suc k) 0

pub rising_all : (xs : List ℕ) → Rising xs (length xs) → ascends xs ≡ true
unfolding ascends
rising_all [] h = refl
rising_all (x ∷ []) h = refl
rising_all (x ∷ y ∷ rest) h = rw (lt-ltb x y (h 0 (omega arith))) (rising_all (y ∷ rest) (λ k l. h (suc k) (omega arith)))

-- one that is not above the one before it
falling : (xs : List ℕ) (i : ℕ) → i + 1 < length xs → ltb (get_or xs i 0) (get_or xs (i + 1) 0) ≡ false → false ≡ ascends xs
falling xs i l e = go (ascends xs) refl
  where
    go : (b : Bool) → ascends xs ≡ b → false ≡ b
    go true q = absurd (omega (arith, ascends_lt xs q i (i + 1) (omega arith) l, ltb-false _ _ e))
    go false q = refl

-- what the library's test of all neighbours answers
pub neighbours_ascend : (xs : List ℕ) (r : Bool) → IsAllAdjacentAnswer (λ x y b. b ≡ ltb x y) xs r → r ≡ ascends xs
neighbours_ascend xs true a = sym (rising_all xs (λ k l. let e : true ≡ ltb (get_or xs k 0) (get_or xs (suc k) 0) = rw add-one at (a k 0 (omega arith)) in ltb-true _ _ (sym e)))
neighbours_ascend xs false (i, l, e) = falling xs i l (sym (e 0))
