-- Sums: one more, and a part of a sum is at most the whole.
-- Assumes nothing.
use mathlib.Core.Path.{◌≡◌, refl}
use mathlib.Core.Logic.{◌⊎◌, inl, inr}
use Prim.Native.Nat.{ℕ, zero, suc, ◌+◌, ◌*◌, ◌≤◌, ◌<◌}
use native.Mathlib.Nat.{eq-or-lt_of_le}
use native.Mathlib.Numerals.{add-one}
use native.Mathlib.Omega.{arith}
use Rattle.model.specs.Count.{sum}

module _ (f : ℕ → ℕ) where
  pub sum_none : sum f 0 ≡ 0
  unfolding sum
  sum_none = refl

  pub sum_more : (i : ℕ) → sum f (i + 1) ≡ sum f i + f i
  unfolding sum
  sum_more i = rw add-one

  pub sum_le : (i n : ℕ) → i ≤ n → sum f i ≤ sum f n
  unfolding sum
  sum_le i zero h = let e : i ≡ 0 = omega arith in rw e (omega arith)
  sum_le i (suc n) h = go (eq-or-lt_of_le h) (λ u. sum_le i n u)
    where
      go : (i ≡ suc n) ⊎ (i < suc n) → (i ≤ n → sum f i ≤ sum f n) → sum f i ≤ sum f n + f n
      go (inl e) before = rw e (omega (arith, sum_more n))
      go (inr l) before = omega (arith, before (omega arith))

  -- one of the numbers added, behind those before it
  pub sum_part : (i n : ℕ) → i < n → sum f i + f i ≤ sum f n
  sum_part i n h = omega (arith, sum_more i, sum_le (i + 1) n (omega arith))

-- after i of n turns of a loop that adds f, at most 65,535 a turn
pub record SumUpto (f : ℕ → ℕ) (n total i : ℕ) : Type 0 where
  pub within : i ≤ n
  pub is : total ≡ sum f i
  pub most : total ≤ i * 65535

pub added_none : (f : ℕ → ℕ) (n : ℕ) → SumUpto f n 0 0
unfolding sum
added_none f n = record { within = omega arith; is = refl; most = omega arith }

pub added_more : {f : ℕ → ℕ} {n total i v : ℕ} → SumUpto f n total i → i < n → v ≡ f i → v ≤ 65535 → SumUpto f n (total + v) (i + 1)
added_more {f} {n} {total} {i} {v} a h e k = record {
  within = omega arith;
  is = omega (arith, sum_more f i, a.is);
  most = omega (arith, a.most);
}

pub added_all : {f : ℕ → ℕ} {n total i : ℕ} → SumUpto f n total i → n ≤ i → {m : ℕ} → n ≡ m → total ≡ sum f m
added_all {f} {n} {total} {i} a h {m} e = let p : i ≡ m = omega (arith, a.within) in rw p at a.is
