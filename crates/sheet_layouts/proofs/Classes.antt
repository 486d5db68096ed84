-- The table of classes: how it is filled, and that equal classes are equal layouts, and so equal facts.
-- Assumes nothing.
use mathlib.Core.Path.{◌≡◌, refl, sym, ◌∙◌, fun_ext}
use mathlib.Core.Bool.{Bool, true, false}
use mathlib.Core.List.{List}
use Prim.Native.Nat.{ℕ, zero, suc, ◌-◌, ◌/◌, ◌%◌, ◌≤◌, ◌<◌, min}
use native.Mathlib.Nat.{min-eq_left, min-eq_right}
use native.Mathlib.Omega.{arith}
use lib.Dec.{eqb, ltb}
use lib.ListN.{length, get_or, replicate, length-replicate, get_or-replicate, get_or-eq_default}
use lib.Seq.{get_or-set_other}
use borrow.Author.Tests.{ltb-true, ltb-false}
use Rattle.model.specs.Fact.{equal_layouts, equal_containers, equal_known}
use Rattle.model.specs.Listing.{lowest}
use Rattle.model.specs.Sheet.{layout_count}
use Rattle.model.specs.declared.AnalysisKind.{AnalysisKind}
use Rattle.model.specs.declared.AnalysisKind.TheVariants.{Constant, IndexCheck, Container}
use Rattle.memory.specs.Front.{front}
use Rattle.memory.proofs.Front.{length_front, get_d_front, front_whole, front_holds}
use Rattle.memory.proofs.StoreLoops.{Turned}
use Rattle.sheet.specs.declared.Sizes.{Sizes}
use Rattle.sheet.proofs.SizeLimits.{limited}
use Rattle.sheet.proofs.AcceptedSheet.{measured}
use Rattle.sheet_layouts.specs.Readable.{Readable}
use Rattle.sheet_layouts.specs.Classes.{layout_classes, class_of, Classes, equal_containers_by, equal_by}
use Rattle.sheet_layouts.proofs.EqualLayouts.{by_lowest, lowest_within}
use Rattle.sheet_layouts.proofs.LowestSearch.{past}

-- ---- the table is filled

front_kept : (f : ℕ → ℕ) (count : ℕ) (old : List ℕ) (i : ℕ) → count ≤ i → get_or (front f count old) i 0 ≡ get_or old i 0
unfolding front
front_kept f zero old i h = refl
front_kept f (suc n) old i h = get_or-set_other (front f n old) n i (f n) 0 (λ e. omega arith) ∙ front_kept f n old i (omega arith)

-- the class of y in every place, and then each of the first y its own
pub all_classes : (sheet old : List ℕ) {y v i : ℕ} {from out : List ℕ} → y ≡ layout_count sheet → v ≡ lowest sheet y
    → from ≡ replicate (length old) v → Turned (lowest sheet) from out i → i ≡ y → out ≡ layout_classes sheet old
unfolding layout_classes
all_classes sheet old {y} {v} {i} {from} {out} count is all t e = sym (front_whole (lowest sheet) (length old) 0 old out refl long at)
  where
    from_long : length from ≡ length old
    from_long = rw all (length-replicate (length old) v)

    long : length out ≡ length old
    long = t.long ∙ from_long

    at : (j : ℕ) → j < length out → get_or out j 0 ≡ lowest sheet j
    at j l = go (ltb j i) refl
      where
        go : (b : Bool) → ltb j i ≡ b → get_or out j 0 ≡ lowest sheet j
        go true k = rw t.is (get_d_front (lowest sheet) i from j 0 (ltb-true j i k) t.within)
        go false k =
            let n = ltb-false j i k in
            rw (t.is, front_kept (lowest sheet) i from j n, all, get_or-replicate (length old) j v 0 (omega (arith, long))) (is ∙ rw count (past sheet j (omega arith)))

-- a class is below 65,536
pub class_fits : {sheet : List ℕ} {sizes : Sizes} {starts : List ℕ} → Readable sheet sizes starts → (i : ℕ) {class : ℕ} → i ≤ sizes.layout_count → class ≡ lowest sheet i → class < 65536
class_fits {sheet} r i h e = let l = limited (measured r.accepted) in omega (arith, lowest_within sheet i)

pub layout_classes_hold : (sheet old : List ℕ) {classes : List ℕ} → classes ≡ layout_classes sheet old → layout_count sheet < length old → Classes sheet classes
unfolding layout_classes
layout_classes_hold sheet old {classes} e h =
    let long : length classes ≡ length old = rw e (length_front (lowest sheet) (length old) old) in
    let t = front_holds (lowest sheet) (length old) old (omega arith) e in
    record { spare = omega arith; holds = record { long = omega arith; at = λ i l. t.at i (omega arith) } }

-- ---- what is read of it

module _ (classes : List ℕ) (i : ℕ) where
  pub class_at : i < length classes → get_or classes i 0 ≡ class_of classes i
  unfolding class_of
  class_at h = rw (min-eq_left {n = i} {m = length classes - 1} (omega arith))

  pub class_none : length classes ≡ 0 → 0 ≡ class_of classes i
  unfolding class_of
  class_none e = sym (get_or-eq_default classes 0 {n = min i (length classes - 1)} (omega arith))

  pub class_last : length classes ≤ i → get_or classes (length classes - 1) 0 ≡ class_of classes i
  unfolding class_of
  class_last h = rw (min-eq_right {n = length classes - 1} {m = i} (omega arith))

module _ {sheet classes : List ℕ} (c : Classes sheet classes) where
  pub class_is : (i : ℕ) → class_of classes i ≡ lowest sheet i
  class_is i = go (ltb i (length classes)) refl
    where
      go : (b : Bool) → ltb i (length classes) ≡ b → class_of classes i ≡ lowest sheet i
      go true t = let h = ltb-true i (length classes) t in sym (class_at classes i h) ∙ c.holds.at i h
      go false t =
          let h = ltb-false i (length classes) t in
          let k = c.spare in
          sym (class_last classes i h) ∙ c.holds.at (length classes - 1) (omega arith) ∙ sym (past sheet (length classes - 1) (omega arith)) ∙ past sheet i (omega arith)

  -- two layouts are equal exactly where their classes are
  pub equal_classes : (i j : ℕ) → eqb (class_of classes i) (class_of classes j) ≡ equal_layouts sheet i j
  equal_classes i j = rw (class_is i, class_is j) (by_lowest sheet i j)

  containers_by : (k v l w : ℕ) → equal_containers_by classes k v l w ≡ equal_containers sheet k v l w
  unfolding equal_containers_by equal_containers
  containers_by k v l w = rw (equal_classes (v / 65536) (w / 65536), equal_classes (v % 65536) (w % 65536))

  -- the known facts that are equal by classes are those that are equal
  pub equal_by_lem : (which : AnalysisKind) → equal_by which classes ≡ equal_known which sheet
  unfolding equal_by equal_known
  equal_by_lem Constant = refl
  equal_by_lem IndexCheck = refl
  equal_by_lem Container = fun_ext (λ k. fun_ext (λ v. fun_ext (λ l. fun_ext (λ w. containers_by k v l w))))
