-- What stands in a list whose first places are written anew.
-- Assumes nothing.
use mathlib.Core.Path.{◌≡◌, refl, sym, ◌∙◌}
use mathlib.Core.List.{List}
use mathlib.Core.Logic.{◌⊎◌, inl, inr}
use Prim.Native.Nat.{ℕ, zero, suc, ◌+◌, ◌≤◌, ◌<◌}
use native.Mathlib.Nat.{not-suc-le-zero, eq-or-lt_of_le}
use native.Mathlib.Numerals.{add-one}
use native.Mathlib.Omega.{arith}
use lib.ListN.{length, get_or, set, length-set}
use lib.Seq.{get_or-set_same, get_or-set_other, ext_get_or}
use Rattle.memory.specs.Front.{front, Holds}

module _ {A : Type 0} (f : ℕ → A) where
  pub front_none : (old : List A) → old ≡ front f 0 old
  unfolding front
  front_none old = refl

  pub front_more : (i : ℕ) (old : List A) {out : List A} {v : A} → out ≡ front f i old → v ≡ f i → set out i v ≡ front f (i + 1) old
  unfolding front
  front_more i old p q = rw (add-one, p, q)

  pub length_front : (count : ℕ) (old : List A) → length (front f count old) ≡ length old
  unfolding front
  length_front zero old = refl
  length_front (suc i) old = length-set (front f i old) i (f i) ∙ length_front i old

  pub get_d_front : (count : ℕ) (old : List A) (i : ℕ) (d : A) → i < count → count ≤ length old → get_or (front f count old) i d ≡ f i
  unfolding front
  get_d_front zero old i d h k = absurd (not-suc-le-zero h)
  get_d_front (suc n) old i d h k = go (eq-or-lt_of_le h) (λ l. get_d_front n old i d l (omega arith))
    where
      go : (suc i ≡ suc n) ⊎ (suc i < suc n) → (i < n → get_or (front f n old) i d ≡ f i) → get_or (set (front f n old) n (f n)) i d ≡ f i
      go (inl e) before =
          let p : i ≡ n = omega arith in rw p (get_or-set_same (front f n old) n (f n) d (omega (arith, length_front n old)))
      go (inr l) before = get_or-set_other (front f n old) n i (f n) d (λ e. omega arith) ∙ before (omega arith)

  -- a list written whole is any list with those elements
  pub front_whole : (count : ℕ) (d : A) (old goal : List A) → count ≡ length old → length goal ≡ length old → ((i : ℕ) → i < length goal → get_or goal i d ≡ f i) → front f count old ≡ goal
  front_whole count d old goal all long at =
      ext_get_or d (front f count old) goal (length_front count old ∙ sym long)
      (λ i h. get_d_front count old i d (omega (arith, length_front count old)) (omega arith) ∙ sym (at i (omega (arith, length_front count old))))

-- a written front is a table of f
pub front_holds : (f : ℕ → ℕ) (count : ℕ) (old : List ℕ) → count ≤ length old → {table : List ℕ} → table ≡ front f count old → Holds f count table
front_holds f count old h e = rw e (record {
  long = omega (arith, length_front f count old);
  at = λ i l. get_d_front f count old i 0 l h;
})
