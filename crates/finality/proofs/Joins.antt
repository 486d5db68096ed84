-- The laws of the join that the work list rests on, for facts and then for rows. Of `same` only that a fact equals itself is used.
-- Assumes nothing.
use mathlib.Core.Path.{◌≡◌, refl, sym, ap, ap₂, ◌∙◌}
use mathlib.Core.Bool.{Bool, true, false, not, cond, ◌&&◌, ◌||◌, false≢true}
use mathlib.Core.List.{[], ◌∷◌}
use Prim.Native.Nat.{ℕ, suc, ◌+◌, ◌*◌, ◌≤◌, ◌<◌}
use native.Mathlib.Nat.{suc_inj}
use native.Mathlib.Omega.{arith}
use lib.Dec.{eqb}
use lib.ListN.{length}
use Rattle.model.specs.Fact.{Fact, unknown, conflict, known, kind, value, Row, differs, row_differs, join, join_row}
use Rattle.model.proofs.Equality.{eqb_self, eqb_path}

-- ---- facts and rows that do not differ

-- a fact is its kind and its value
pub fact_path : (f g : Fact) → kind f ≡ kind g → value f ≡ value g → f ≡ g
unfolding kind value
fact_path unknown unknown k v = refl
fact_path unknown conflict k v = absurd (omega arith)
fact_path unknown (known l w) k v = absurd (omega arith)
fact_path conflict unknown k v = absurd (omega arith)
fact_path conflict conflict k v = refl
fact_path conflict (known l w) k v = absurd (omega arith)
fact_path (known l w) unknown k v = absurd (omega arith)
fact_path (known l w) conflict k v = absurd (omega arith)
fact_path (known l w) (known l' w') k v = ap₂ known (suc_inj (suc_inj k)) v

pub differs_self : (f : Fact) → differs f f ≡ false
unfolding differs
differs_self f = simp eqb_self

pub differs_false : (f g : Fact) → differs f g ≡ false → f ≡ g
unfolding differs
differs_false f g e = go (eqb (kind f) (kind g)) (eqb (value f) (value g)) refl refl e
  where
    go : (x y : Bool) → eqb (kind f) (kind g) ≡ x → eqb (value f) (value g) ≡ y → not (x && y) ≡ false → f ≡ g
    go true true p q h = fact_path f g (eqb_path (kind f) (kind g) p) (eqb_path (value f) (value g) q)
    go true false p q h = cc
    go false y p q h = cc

pub row_differs-self : (r : Row) → row_differs r r ≡ false
unfolding row_differs
row_differs-self [] = refl
row_differs-self (f ∷ fs) = rw (differs_self f, row_differs-self fs)

-- ---- the weight of a fact: how often it can still change

unfoldable pub fact_weight : Fact → ℕ
fact_weight unknown = 1
fact_weight conflict = 0
fact_weight (known k v) = 2

unfoldable pub row_weight : Row → ℕ
row_weight [] = 0
row_weight (f ∷ fs) = fact_weight f + row_weight fs

pub weight_max : (f : Fact) → fact_weight f ≤ 2
unfolding fact_weight
weight_max unknown = omega arith
weight_max conflict = omega arith
weight_max (known k v) = omega arith

pub row_weight-max : (r : Row) → row_weight r ≤ 2 * length r
unfolding row_weight
row_weight-max [] = omega arith
row_weight-max (f ∷ fs) = omega (arith, weight_max f, row_weight-max fs)

module _ (same : ℕ → ℕ → ℕ → ℕ → Bool) where
  -- what was joined in is joined in: once more changes nothing
  pub join_twice : (f g : Fact) → join same (join same f g) g ≡ join same f g
  unfolding join
  join_twice conflict g = refl
  join_twice unknown conflict = refl
  join_twice unknown unknown = refl
  join_twice unknown (known l w) = refl
  join_twice (known k v) conflict = refl
  join_twice (known k v) unknown = refl
  join_twice (known k v) (known l w) = go (same k v l w) refl
    where
      go : (b : Bool) → same k v l w ≡ b → join same (cond b (known k v) conflict) (known l w) ≡ cond b (known k v) conflict
      go true e = rw e
      go false e = refl

  -- and stays so when another fact is joined in
  pub join_stays : (f h g : Fact) → join same f g ≡ f → join same (join same f h) g ≡ join same f h
  unfolding join
  join_stays conflict h g e = refl
  join_stays unknown conflict g e = refl
  join_stays unknown unknown g e = e
  join_stays unknown (known l w) g e = e
  join_stays (known k v) conflict g e = refl
  join_stays (known k v) unknown conflict e = cc
  join_stays (known k v) unknown unknown e = refl
  join_stays (known k v) unknown (known l w) e = refl
  join_stays (known k v) (known l w) g e = go (same k v l w)
    where
      go : (b : Bool) → join same (cond b (known k v) conflict) g ≡ cond b (known k v) conflict
      go true = e
      go false = refl

  pub join_self : ((k v : ℕ) → same k v k v ≡ true) → (f : Fact) → join same f f ≡ f
  unfolding join
  join_self h unknown = refl
  join_self h conflict = refl
  join_self h (known k v) = rw h

  pub join_le : (f g : Fact) → fact_weight (join same f g) ≤ fact_weight f
  unfolding join fact_weight
  join_le conflict g = omega arith
  join_le unknown conflict = omega arith
  join_le unknown unknown = omega arith
  join_le unknown (known l w) = omega arith
  join_le (known k v) conflict = omega arith
  join_le (known k v) unknown = omega arith
  join_le (known k v) (known l w) = go (same k v l w)
    where
      go : (b : Bool) → fact_weight (cond b (known k v) conflict) ≤ 2
      go true = omega arith
      go false = omega arith

  pub join_lt : (f g : Fact) → differs f (join same f g) ≡ true → fact_weight (join same f g) < fact_weight f
  unfolding join fact_weight differs kind value
  join_lt conflict g e = absurd (false≢true e)
  join_lt unknown conflict e = omega arith
  join_lt unknown unknown e = absurd (false≢true e)
  join_lt unknown (known l w) e = absurd (false≢true e)
  join_lt (known k v) conflict e = omega arith
  join_lt (known k v) unknown e = omega arith
  join_lt (known k v) (known l w) e = go (same k v l w) e
    where
      go : (b : Bool) → differs (known k v) (cond b (known k v) conflict) ≡ true → fact_weight (cond b (known k v) conflict) < 2
      go true h = absurd (false≢true (sym (differs_self (known k v)) ∙ h))
      go false h = omega arith

  -- ---- rows

  pub length-join_row : (r c : Row) → length (join_row same r c) ≡ length r
  unfolding join_row
  length-join_row [] c = refl
  length-join_row (f ∷ fs) [] = refl
  length-join_row (f ∷ fs) (g ∷ gs) = ap suc (length-join_row fs gs)

  pub join_row-twice : (r c : Row) → join_row same (join_row same r c) c ≡ join_row same r c
  unfolding join_row
  join_row-twice [] c = refl
  join_row-twice (f ∷ fs) [] = refl
  join_row-twice (f ∷ fs) (g ∷ gs) = ap₂ ◌∷◌ (join_twice f g) (join_row-twice fs gs)

  pub join_row-stays : (r d c : Row) → join_row same r c ≡ r → join_row same (join_row same r d) c ≡ join_row same r d
  unfolding join_row
  join_row-stays [] d c e = refl
  join_row-stays (f ∷ fs) [] c e = e
  join_row-stays (f ∷ fs) (h ∷ hs) [] e = refl
  join_row-stays (f ∷ fs) (h ∷ hs) (g ∷ gs) e = ap₂ ◌∷◌ (join_stays f h g (cc)) (join_row-stays fs hs gs (cc))

  pub join_row-self : ((k v : ℕ) → same k v k v ≡ true) → (r : Row) → join_row same r r ≡ r
  unfolding join_row
  join_row-self h [] = refl
  join_row-self h (f ∷ fs) = ap₂ ◌∷◌ (join_self h f) (join_row-self h fs)

  pub join_row-le : (r c : Row) → row_weight (join_row same r c) ≤ row_weight r
  unfolding join_row row_weight
  join_row-le [] c = omega arith
  join_row-le (f ∷ fs) [] = omega arith
  join_row-le (f ∷ fs) (g ∷ gs) = omega (arith, join_le f g, join_row-le fs gs)

  -- a row that changed weighs less
  pub join_row-lt : (r c : Row) → row_differs r (join_row same r c) ≡ true → row_weight (join_row same r c) < row_weight r
  unfolding join_row row_weight row_differs
  join_row-lt [] c e = absurd (false≢true e)
  join_row-lt (f ∷ fs) [] e = absurd (false≢true (sym (row_differs-self (f ∷ fs)) ∙ e))
  join_row-lt (f ∷ fs) (g ∷ gs) e = go (join_row-lt fs gs) (differs f (join same f g)) refl e
    where
      go : (row_differs fs (join_row same fs gs) ≡ true → row_weight (join_row same fs gs) < row_weight fs)
          → (b : Bool) → differs f (join same f g) ≡ b → b || row_differs fs (join_row same fs gs) ≡ true
          → fact_weight (join same f g) + row_weight (join_row same fs gs) < fact_weight f + row_weight fs
      go rest true d h = omega (arith, join_lt f g d, join_row-le fs gs)
      go rest false d h = omega (arith, join_le f g, rest h)

  -- a row that did not change is the old one
  pub join_row-same : (r c : Row) → row_differs r (join_row same r c) ≡ false → join_row same r c ≡ r
  unfolding join_row row_differs
  join_row-same [] c e = refl
  join_row-same (f ∷ fs) [] e = refl
  join_row-same (f ∷ fs) (g ∷ gs) e = go (join_row-same fs gs) (differs f (join same f g)) refl e
    where
      go : (row_differs fs (join_row same fs gs) ≡ false → join_row same fs gs ≡ fs)
          → (b : Bool) → differs f (join same f g) ≡ b → b || row_differs fs (join_row same fs gs) ≡ false → join_row same (f ∷ fs) (g ∷ gs) ≡ f ∷ fs
      go rest true d h = cc
      go rest false d h = ap₂ ◌∷◌ (sym (differs_false f (join same f g) d)) (rest h)
