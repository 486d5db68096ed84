-- What the join of a cell changes: where it leaves the kind, it leaves the value.
-- Assumes nothing.
use mathlib.Core.Path.{◌≡◌, refl, sym, ◌∙◌}
use mathlib.Core.Logic.{◌≢◌}
use mathlib.Core.Bool.{Bool, true, false, cond}
use Prim.Native.Nat.{ℕ, zero, suc}
use native.Mathlib.Omega.{arith}
use borrow.Author.Tests.{eq-eqb, ne_eqb}
use Rattle.model.specs.Fact.{Fact, unknown, conflict, known, kind, value, differs, join}
use Rattle.model.specs.Tables.{fact_of}

kind-fact_of : (k v : ℕ) → kind (fact_of k v) ≡ k
unfolding fact_of kind
kind-fact_of zero v = refl
kind-fact_of (suc zero) v = refl
kind-fact_of (suc (suc k)) v = refl

module _ (same : ℕ → ℕ → ℕ → ℕ → Bool) where
  pub kept : (k v : ℕ) (g : Fact) → v ≡ value (fact_of k v) → kind (join same (fact_of k v) g) ≡ k → value (join same (fact_of k v) g) ≡ v
  unfolding fact_of join kind value
  kept zero v unknown e h = sym e
  kept zero v conflict e h = sym e
  kept zero v (known l w) e h = sym e
  kept (suc zero) v g e h = sym e
  kept (suc (suc k)) v unknown e h = absurd (omega arith)
  kept (suc (suc k)) v conflict e h = absurd (omega arith)
  kept (suc (suc k)) v (known l w) e h = by (same k v l w) h
    where
      by : (t : Bool) → kind (cond t (known k v) conflict) ≡ suc (suc k) → value (cond t (known k v) conflict) ≡ v
      by true q = refl
      by false q = absurd (omega arith)

  -- and so the kind alone tells whether something changed
  pub same_kind : (k v : ℕ) (g : Fact) → v ≡ value (fact_of k v) → kind (join same (fact_of k v) g) ≡ k
      → differs (fact_of k v) (join same (fact_of k v) g) ≡ false
  unfolding differs
  same_kind k v g e h =
      rw (
        eq-eqb (kind (fact_of k v)) (kind (join same (fact_of k v) g)) (kind-fact_of k v ∙ sym h),
        eq-eqb (value (fact_of k v)) (value (join same (fact_of k v) g)) (sym e ∙ sym (kept k v g e h)),
      )

  pub other_kind : (k v : ℕ) (g : Fact) → kind (join same (fact_of k v) g) ≢ k → differs (fact_of k v) (join same (fact_of k v) g) ≡ true
  unfolding differs
  other_kind k v g h =
      rw (ne_eqb (kind (fact_of k v)) (kind (join same (fact_of k v) g)) (λ q. h (sym q ∙ kind-fact_of k v)))

  -- a fact that equals itself stays
  pub joined_self : ((k v : ℕ) → same k v k v ≡ true) → (k v : ℕ) → kind (join same (fact_of k v) (fact_of k v)) ≡ k
  unfolding fact_of join kind
  joined_self r zero v = refl
  joined_self r (suc zero) v = refl
  joined_self r (suc (suc k)) v = rw (r k v)
