-- Two layouts are equal exactly where their lowest numbers are, and so are the container facts that name them.
-- Assumes nothing.
use mathlib.Core.Path.{◌≡◌, refl, sym, ap, ◌∙◌}
use mathlib.Core.Bool.{Bool, true, false, ◌&&◌, cond, false≢true}
use mathlib.Core.List.{List}
use Prim.Native.Nat.{ℕ, zero, suc, ◌+◌, ◌/◌, ◌%◌, ◌≤◌, ◌<◌}
use native.Mathlib.Numerals.{add-one}
use native.Mathlib.Omega.{arith}
use lib.Dec.{eqb}
use borrow.Author.Count.{below_none, below_more}
use borrow.Author.Tests.{eq-eqb, ne_eqb}
use Rattle.model.specs.Sheet.{layout}
use Rattle.model.specs.Fact.{equal_layouts, equal_containers}
use Rattle.model.specs.Listing.{lowest_from, lowest}
use Rattle.model.proofs.Equality.{eqb_self, eqb_path, content_self, content_path}
use Rattle.model.proofs.Tests.{both_left, both_right}
use Rattle.sheet_layouts.proofs.LowestSearch.{None}

module _ (sheet : List ℕ) where
  same_layout : (i j : ℕ) → equal_layouts sheet i j ≡ true → layout sheet i ≡ layout sheet j
  unfolding equal_layouts
  same_layout i j e = content_path (layout sheet i) (layout sheet j) e

  equal_layout : (i j : ℕ) → layout sheet i ≡ layout sheet j → equal_layouts sheet i j ≡ true
  unfolding equal_layouts
  equal_layout i j e = rw e (content_self (layout sheet j))

  -- the lowest has the content, and none below it has
  record Least (i low : ℕ) : Type 0 where
    pub same : layout sheet low ≡ layout sheet i
    pub none : None sheet i low

  from_least : (i at count : ℕ) → at + count ≡ i → None sheet i at → Least i (lowest_from sheet i at count)
  unfolding lowest_from
  from_least i at zero e before = let p : at ≡ i = omega arith in record { same = refl; none = rw p at before }
  from_least i at (suc count) e before =
      go (equal_layouts sheet at i) refl
      (λ apart. from_least i (suc at) count (omega arith) (rw add-one at (below_more _ _ before apart)))
    where
      go : (b : Bool) → equal_layouts sheet at i ≡ b → (equal_layouts sheet at i ≡ false → Least i (lowest_from sheet i (suc at) count))
          → Least i (cond b at (lowest_from sheet i (suc at) count))
      go true t rest = record { same = same_layout at i t; none = before }
      go false t rest = rest t

  least : (i : ℕ) → Least i (lowest sheet i)
  unfolding lowest
  least i = from_least i 0 i (omega arith) (below_none _)

  -- no number below the lowest of one is the lowest of an equal one
  not_below : (i j : ℕ) → layout sheet i ≡ layout sheet j → lowest sheet i < lowest sheet j → ⊥
  not_below i j e h =
      let p = (least j).none (lowest sheet i) h in
      false≢true (sym p ∙ equal_layout (lowest sheet i) j ((least i).same ∙ e))

  pub equal_lowest : (i j : ℕ) → equal_layouts sheet i j ≡ true → lowest sheet i ≡ lowest sheet j
  equal_lowest i j t =
      let e = same_layout i j t in
      let h : lowest sheet i < lowest sheet j → ⊥ = not_below i j e in
      let k : lowest sheet j < lowest sheet i → ⊥ = not_below j i (sym e) in
      omega (arith, h, k)

  pub lowest_equal : (i j : ℕ) → lowest sheet i ≡ lowest sheet j → equal_layouts sheet i j ≡ true
  lowest_equal i j e = equal_layout i j (sym (least i).same ∙ ap (layout sheet) e ∙ (least j).same)

  -- the two at once
  pub by_lowest : (i j : ℕ) → eqb (lowest sheet i) (lowest sheet j) ≡ equal_layouts sheet i j
  by_lowest i j = go (equal_layouts sheet i j) refl
    where
      go : (b : Bool) → equal_layouts sheet i j ≡ b → eqb (lowest sheet i) (lowest sheet j) ≡ b
      go true t = eq-eqb (lowest sheet i) (lowest sheet j) (equal_lowest i j t)
      go false t = ne_eqb (lowest sheet i) (lowest sheet j) (λ e. false≢true (sym t ∙ lowest_equal i j e))

  pub lowest_within : (i : ℕ) → lowest sheet i ≤ i
  lowest_within i =
      let h : i < lowest sheet i → ⊥ = λ l. false≢true (sym ((least i).none i l) ∙ equal_layout i i refl) in omega (arith, h)

  -- ---- container facts

  -- "by length and content": of known facts with kinds k and l and values v and w
  pub record SameContent (k v l w : ℕ) : Type 0 where
    pub kinds : k ≡ l
    pub first : lowest sheet (v / 65536) ≡ lowest sheet (w / 65536)
    pub second : lowest sheet (v % 65536) ≡ lowest sheet (w % 65536)

  pub containers_lowest : (k v l w : ℕ) → equal_containers sheet k v l w ≡ true → SameContent k v l w
  unfolding equal_containers
  containers_lowest k v l w t =
      let front = both_left (eqb k l && equal_layouts sheet (v / 65536) (w / 65536)) _ t in record {
        kinds = eqb_path k l (both_left (eqb k l) _ front);
        first = equal_lowest (v / 65536) (w / 65536) (both_right (eqb k l) _ front);
        second = equal_lowest (v % 65536) (w % 65536) (both_right (eqb k l && equal_layouts sheet (v / 65536) (w / 65536)) _ t);
      }

  pub lowest_containers : (k v l w : ℕ) → SameContent k v l w → equal_containers sheet k v l w ≡ true
  unfolding equal_containers
  lowest_containers k v l w s =
      rw (lowest_equal (v / 65536) (w / 65536) s.first, lowest_equal (v % 65536) (w % 65536) s.second, s.kinds, eqb_self l) refl
