-- A list x that takes the place of k, from the left.
-- Assumes nothing.
use mathlib.Core.Path.{◌≡◌, refl, ap}
use mathlib.Core.List.{List, [], ◌∷◌, ◌++◌, append-nil}
use Prim.Native.Nat.{ℕ, zero, suc, ◌≤◌, ◌<◌}
use native.Mathlib.Nat.{le_of_suc-le-suc, not-suc-le-zero, suc_inj}
use native.Mathlib.Omega.{arith}
use lib.ListN.{length, get_or, set, take, drop, drop_of_length-le}
use lib.Seq.{take_all}

pub fill_get : (x k : List ℕ) (i : ℕ) → length k ≡ length x → get_or (take i x ++ drop i k) i 0 ≡ get_or k i 0
fill_get x k zero e = refl
fill_get [] [] (suc i) e = refl
fill_get [] (b ∷ k) (suc i) e = absurd (omega arith)
fill_get (a ∷ x) [] (suc i) e = absurd (omega arith)
fill_get (a ∷ x) (b ∷ k) (suc i) e = fill_get x k i (suc_inj e)

pub fill_set : (x k : List ℕ) (i : ℕ) → i < length x → length k ≡ length x
    → set (take i x ++ drop i k) i (get_or x i 0) ≡ take (suc i) x ++ drop (suc i) k
fill_set [] k i h e = absurd (not-suc-le-zero h)
fill_set (a ∷ x) [] i h e = absurd (omega arith)
fill_set (a ∷ x) (b ∷ k) zero h e = refl
fill_set (a ∷ x) (b ∷ k) (suc i) h e = ap (λ (r : List ℕ). a ∷ r) (fill_set x k i (le_of_suc-le-suc h) (suc_inj e))

pub fill_done : (x k : List ℕ) (i : ℕ) → length k ≡ length x → length x ≤ i → take i x ++ drop i k ≡ x
fill_done x k i e h = rw (drop_of_length-le k {i = i} (omega arith), append-nil, take_all i x h)
