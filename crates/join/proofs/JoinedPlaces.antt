-- The joined row, place by place.
-- Assumes nothing.
use mathlib.Core.Path.{◌≡◌, refl, sym, ap, ◌∙◌}
use mathlib.Core.Bool.{Bool, ◌||◌, or-false, or_assoc}
use mathlib.Core.List.{List, [], ◌∷◌, map}
use Prim.Native.Nat.{ℕ, zero, suc, ◌<◌}
use native.Mathlib.Nat.{le_of_suc-le-suc, not-suc-le-zero, suc_inj}
use native.Mathlib.Omega.{arith}
use lib.ListN.{length, get_or, take}
use Rattle.model.specs.Fact.{Fact, Row, differs, row_differs, join, join_row}
use Rattle.model.specs.Tables.{fact_of, facts_of}

-- ---- rows of cells

pub facts_of-get : (f : Fact → ℕ) (ks vs : List ℕ) (i : ℕ) → length vs ≡ length ks → i < length ks
    → get_or (map f (facts_of ks vs)) i 0 ≡ f (fact_of (get_or ks i 0) (get_or vs i 0))
unfolding facts_of
facts_of-get f [] vs i e h = absurd (not-suc-le-zero h)
facts_of-get f (k ∷ ks) [] i e h = absurd (omega arith)
facts_of-get f (k ∷ ks) (v ∷ vs) zero e h = refl
facts_of-get f (k ∷ ks) (v ∷ vs) (suc i) e h = facts_of-get f ks vs i (suc_inj e) (le_of_suc-le-suc h)

-- ---- rows, all of one length

-- the joined row
abbrev pub joined : (ℕ → ℕ → ℕ → ℕ → Bool) → List ℕ → List ℕ → List ℕ → List ℕ → Row
joined same ok ov nk nv = join_row same (facts_of ok ov) (facts_of nk nv)

-- the join at one place
abbrev pub join_at : (ℕ → ℕ → ℕ → ℕ → Bool) → List ℕ → List ℕ → List ℕ → List ℕ → ℕ → Fact
join_at same ok ov nk nv i = join same (fact_of (get_or ok i 0) (get_or ov i 0)) (fact_of (get_or nk i 0) (get_or nv i 0))

-- whether the first i places changed
unfoldable pub changed_to : (ℕ → ℕ → ℕ → ℕ → Bool) → List ℕ → List ℕ → List ℕ → List ℕ → ℕ → Bool
changed_to same ok ov nk nv i = row_differs (take i (facts_of ok ov)) (take i (joined same ok ov nk nv))

module _ (same : ℕ → ℕ → ℕ → ℕ → Bool) where
  pub joined_length : (r c : Row) → length (join_row same r c) ≡ length r
  unfolding join_row
  joined_length [] c = refl
  joined_length (f ∷ fs) [] = refl
  joined_length (f ∷ fs) (g ∷ gs) = ap suc (joined_length fs gs)

  pub joined_get : (f : Fact → ℕ) (ok ov nk nv : List ℕ) (i : ℕ) → length ov ≡ length ok → length nk ≡ length ok → length nv ≡ length ok → i < length ok
      → get_or (map f (joined same ok ov nk nv)) i 0 ≡ f (join_at same ok ov nk nv i)
  unfolding join_row facts_of
  joined_get f [] ov nk nv i a b c h = absurd (not-suc-le-zero h)
  joined_get f (k ∷ ok) [] nk nv i a b c h = absurd (omega arith)
  joined_get f (k ∷ ok) (v ∷ ov) [] nv i a b c h = absurd (omega arith)
  joined_get f (k ∷ ok) (v ∷ ov) (l ∷ nk) [] i a b c h = absurd (omega arith)
  joined_get f (k ∷ ok) (v ∷ ov) (l ∷ nk) (w ∷ nv) zero a b c h = refl
  joined_get f (k ∷ ok) (v ∷ ov) (l ∷ nk) (w ∷ nv) (suc i) a b c h =
      joined_get f ok ov nk nv i (suc_inj a) (suc_inj b) (suc_inj c) (le_of_suc-le-suc h)

  pub changed_to-suc : (ok ov nk nv : List ℕ) (i : ℕ) → length ov ≡ length ok → length nk ≡ length ok → length nv ≡ length ok → i < length ok
      → changed_to same ok ov nk nv (suc i) ≡ changed_to same ok ov nk nv i || differs (fact_of (get_or ok i 0) (get_or ov i 0)) (join_at same ok ov nk nv i)
  unfolding changed_to join_row facts_of row_differs
  changed_to-suc [] ov nk nv i a b c h = absurd (not-suc-le-zero h)
  changed_to-suc (k ∷ ok) [] nk nv i a b c h = absurd (omega arith)
  changed_to-suc (k ∷ ok) (v ∷ ov) [] nv i a b c h = absurd (omega arith)
  changed_to-suc (k ∷ ok) (v ∷ ov) (l ∷ nk) [] i a b c h = absurd (omega arith)
  changed_to-suc (k ∷ ok) (v ∷ ov) (l ∷ nk) (w ∷ nv) zero a b c h = or-false (differs (fact_of k v) (join same (fact_of k v) (fact_of l w)))
  changed_to-suc (k ∷ ok) (v ∷ ov) (l ∷ nk) (w ∷ nv) (suc i) a b c h =
      ap (λ (x : Bool). differs (fact_of k v) (join same (fact_of k v) (fact_of l w)) || x)
      (changed_to-suc ok ov nk nv i (suc_inj a) (suc_inj b) (suc_inj c) (le_of_suc-le-suc h))
      ∙ sym (or_assoc (differs (fact_of k v) (join same (fact_of k v) (fact_of l w))) (changed_to same ok ov nk nv i) (differs (fact_of (get_or ok i 0) (get_or ov i 0)) (join_at same ok ov nk nv i)))
