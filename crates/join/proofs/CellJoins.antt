-- The join of two cells, by the tests of the code.
-- Assumes nothing.
use mathlib.Core.Path.{◌≡◌, refl, sym, ap, ◌∙◌}
use mathlib.Core.Logic.{◌≢◌, ◌⊎◌, inl, inr}
use mathlib.Core.Bool.{Bool, true, false, cond}
use mathlib.Core.List.{List}
use Prim.Native.Nat.{ℕ, zero, suc}
use lib.Dec.{eqb-suc-suc}
use Rattle.model.specs.Fact.{conflict, known, kind, value, join, equal_numbers}
use Rattle.model.specs.Tables.{fact_of, fact_in, cell_of}
use Rattle.model.specs.declared.FactCell.{FactCell}
use Rattle.sheet_layouts.specs.Classes.{equal_containers_by}

abbrev pub cell_joined : ℕ → ℕ → FactCell
cell_joined k v = record { kind = k; value = v }

-- ---- the ways out of `merge_fact`, from a cell (ok, ov) and a cell (nk, nv)

module _ (equal : Bool) (ov nv : ℕ) where
  abbrev merged : ℕ → ℕ → FactCell
  merged ok nk = cell_of (join (λ k v l w. equal) (fact_of ok ov) (fact_of nk nv))

  -- either is Conflict
  pub conflicts : (ok nk : ℕ) → (ok ≡ 1) ⊎ ((ok ≢ 1) × (nk ≡ 1)) → cell_joined 1 0 ≡ merged ok nk
  unfolding fact_of join cell_of kind value
  conflicts ok nk (inl e) = rw e
  conflicts zero nk (inr (h, e)) = rw e
  conflicts (suc zero) nk (inr (h, e)) = refl
  conflicts (suc (suc k)) nk (inr (h, e)) = rw e

  -- else either is Unknown
  pub unknowns : (ok nk : ℕ) → (ok ≢ 1) × (nk ≢ 1) → (ok ≡ 0) ⊎ ((ok ≢ 0) × (nk ≡ 0)) → cell_joined 0 0 ≡ merged ok nk
  unfolding fact_of join cell_of kind value
  unknowns ok zero h (inl e) = rw e
  unknowns ok (suc zero) h (inl e) = absurd (h.1 refl)
  unknowns ok (suc (suc l)) h (inl e) = rw e
  unknowns zero nk h (inr e) = rw e.1
  unknowns (suc zero) nk h (inr e) = absurd (h.0 refl)
  unknowns (suc (suc k)) nk h (inr e) = rw e.1

  both_known : (ok nk : ℕ) → ok ≢ 1 → nk ≢ 1 → ok ≢ 0 → nk ≢ 0 → cond equal (cell_joined ok ov) (cell_joined 1 0) ≡ merged ok nk
  unfolding fact_of join cell_of kind value
  both_known zero nk a b c d = absurd (c refl)
  both_known (suc zero) nk a b c d = absurd (a refl)
  both_known (suc (suc k)) zero a b c d = absurd (d refl)
  both_known (suc (suc k)) (suc zero) a b c d = absurd (b refl)
  both_known (suc (suc k)) (suc (suc l)) a b c d = by equal
    where
      by : (t : Bool) → cond t (cell_joined (suc (suc k)) ov) (cell_joined 1 0) ≡ cell_of (cond t (known k ov) conflict)
      by true = refl
      by false = refl

  -- both are known
  module _ (ok nk : ℕ) (a : (ok ≢ 1) × (nk ≢ 1)) (b : (ok ≢ 0) × (nk ≢ 0)) where
    pub equal_stays : equal ≡ true → cell_joined ok ov ≡ merged ok nk
    equal_stays e = ap (λ (t : Bool). cond t (cell_joined ok ov) (cell_joined 1 0)) (sym e) ∙ both_known ok nk a.0 a.1 b.0 b.1

    pub different_conflict : equal ≡ false → cell_joined 1 0 ≡ merged ok nk
    different_conflict e = ap (λ (t : Bool). cond t (cell_joined ok ov) (cell_joined 1 0)) (sym e) ∙ both_known ok nk a.0 a.1 b.0 b.1

-- ---- from the answer to the rule

-- A rule that compares the table's kinds as it does the kinds less 2.
abbrev pub Shifts : (ℕ → ℕ → ℕ → ℕ → Bool) → Type 0
Shifts same = (k v l w : ℕ) → same (suc (suc k)) v (suc (suc l)) w ≡ same k v l w

-- what `merge_fact` comes to where it was handed what the rule says of the two cells
module _ (same : ℕ → ℕ → ℕ → ℕ → Bool) (shifts : Shifts same) (equal : Bool) (ov nv : ℕ) where
  by : (ok nk : ℕ) → equal ≡ same ok ov nk nv → join (λ k v l w. equal) (fact_of ok ov) (fact_of nk nv) ≡ join same (fact_of ok ov) (fact_of nk nv)
  unfolding fact_of join
  by zero zero e = refl
  by zero (suc zero) e = refl
  by zero (suc (suc l)) e = refl
  by (suc zero) nk e = refl
  by (suc (suc k)) zero e = refl
  by (suc (suc k)) (suc zero) e = refl
  by (suc (suc k)) (suc (suc l)) e = rw (e, shifts k ov l nv)

pub merged_by : (same : ℕ → ℕ → ℕ → ℕ → Bool) → Shifts same → (old new : FactCell) (equal : Bool)
    → equal ≡ same old.kind old.value new.kind new.value
    → cell_of (join (λ k v l w. equal) (fact_in old) (fact_in new)) ≡ cell_of (join same (fact_in old) (fact_in new))
unfolding fact_in
merged_by same shifts old new equal e = ap cell_of (by same shifts equal old.value new.value old.kind new.kind e)

-- ---- the rules

pub numbers_shift : Shifts equal_numbers
unfolding equal_numbers
numbers_shift k v l w = rw (eqb-suc-suc (suc k) (suc l), eqb-suc-suc k l)

pub containers_shift : (classes : List ℕ) → Shifts (equal_containers_by classes)
unfolding equal_containers_by
containers_shift classes k v l w = rw (eqb-suc-suc (suc k) (suc l), eqb-suc-suc k l)
