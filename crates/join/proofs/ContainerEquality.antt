-- When two containers are equal, by the tests of the code; and the join of an analysis.
-- Assumes nothing.
use mathlib.Core.Path.{◌≡◌}
use mathlib.Core.Logic.{◌≢◌, ◌⊎◌, inl, inr}
use mathlib.Core.Bool.{true, false, ◌&&◌}
use mathlib.Core.List.{List}
use Prim.Native.Nat.{ℕ, ◌/◌, ◌%◌}
use lib.Dec.{eqb}
use borrow.Author.Tests.{eq-eqb, ne_eqb, eqb-true}
use Rattle.model.specs.Fact.{Fact, join, equal_numbers}
use Rattle.model.specs.Tables.{cell_of}
use Rattle.model.specs.declared.FactCell.{FactCell}
use Rattle.model.specs.declared.AnalysisKind.{AnalysisKind}
use Rattle.model.specs.declared.AnalysisKind.TheVariants.{Constant, IndexCheck, Container}
use Rattle.model.proofs.Equality.{eqb_self}
use Rattle.model.proofs.Tests.{both_left, both_right}
use Rattle.sheet_layouts.specs.Classes.{class_of, equal_containers_by, equal_by}

-- ---- two containers

module _ (classes : List ℕ) (k v l w : ℕ) where
  pub other_kinds : k ≢ l → false ≡ equal_containers_by classes k v l w
  unfolding equal_containers_by
  other_kinds h = rw (ne_eqb k l h)

  pub same_cells : eqb k l && eqb v w ≡ true → true ≡ equal_containers_by classes k v l w
  unfolding equal_containers_by
  same_cells e = rw (
    both_left (eqb k l) (eqb v w) e,
    eqb-true v w (both_right (eqb k l) (eqb v w) e),
    eqb_self (class_of classes (w / 65536)),
    eqb_self (class_of classes (w % 65536)),
  )

  module _ (h : k ≡ l) where
    module _ {a b : ℕ} (a_is : a ≡ class_of classes (v / 65536)) (b-is : b ≡ class_of classes (w / 65536)) where
      pub other_first : a ≢ b → false ≡ equal_containers_by classes k v l w
      unfolding equal_containers_by
      other_first t = rw (eq-eqb k l h, ← a_is, ← b-is, ne_eqb a b t)

      pub by_second : a ≡ b → {c d : ℕ} → c ≡ class_of classes (v % 65536) → d ≡ class_of classes (w % 65536) → eqb c d ≡ equal_containers_by classes k v l w
      unfolding equal_containers_by
      by_second t c-is d-is = rw (eq-eqb k l h, ← a_is, ← b-is, eq-eqb a b t, c-is, d-is)

-- ---- the join of an analysis

module _ (which : AnalysisKind) (classes : List ℕ) (f g : Fact) (r : FactCell) where
  pub joins_numbers : (which ≡ Constant) ⊎ (which ≡ IndexCheck) → r ≡ cell_of (join equal_numbers f g) → r ≡ cell_of (join (equal_by which classes) f g)
  unfolding equal_by
  joins_numbers (inl e) h = rw e h
  joins_numbers (inr e) h = rw e h

  pub joins_containers : which ≡ Container → r ≡ cell_of (join (equal_containers_by classes) f g) → r ≡ cell_of (join (equal_by which classes) f g)
  unfolding equal_by
  joins_containers e h = rw e h

-- in each analysis a fact equals itself
pub equals_itself : (which : AnalysisKind) (classes : List ℕ) (k v : ℕ) → equal_by which classes k v k v ≡ true
unfolding equal_by equal_numbers equal_containers_by
equals_itself Constant classes k v = rw (eqb_self k, eqb_self v)
equals_itself IndexCheck classes k v = rw (eqb_self k, eqb_self v)
equals_itself Container classes k v = rw (eqb_self k, eqb_self (class_of classes (v / 65536)), eqb_self (class_of classes (v % 65536)))
