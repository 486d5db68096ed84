-- The lowest layout of equal content: what a search over the layouts finds.
-- Assumes nothing.
use mathlib.Core.Path.{◌≡◌, refl, sym, ap, ◌∙◌}
use mathlib.Core.Bool.{Bool, true, false}
use mathlib.Core.Logic.{◌⊎◌, inl, inr}
use mathlib.Core.List.{List, []}
use Prim.Native.Nat.{ℕ, zero, suc, ◌+◌, ◌-◌, ◌≤◌, ◌<◌, min}
use native.Mathlib.Nat.{eq-or-lt_of_le}
use native.Mathlib.Omega.{arith}
use lib.Dec.{ltb}
use lib.ListN.{length, get_or}
use lib.Seq.{ext_get_or}
use borrow.Author.Tests.{ltb-true, ltb-false, le-ltb}
use Rattle.model.specs.Sheet.{layout, layout_count, layout_length}
use Rattle.model.specs.Fact.{equal_content, equal_layouts}
use Rattle.model.specs.Listing.{lowest_from, lowest}
use Rattle.model.proofs.Equality.{content_self, content_path}
use Rattle.sheet.specs.Measured.{Accepted}
use Rattle.sheet.specs.declared.Sizes.{Sizes}
use Rattle.sheet.proofs.SizeNames.{counted}

-- ---- the layouts in order

-- none of the first j has the content of i
abbrev pub None : List ℕ → ℕ → ℕ → Type 0
None sheet i j = (k : ℕ) → k < j → equal_layouts sheet k i ≡ false

module _ (sheet : List ℕ) (i : ℕ) where
  passed : (n at total : ℕ) → n ≤ total → ((k : ℕ) → k < n → equal_layouts sheet (at + k) i ≡ false) → lowest_from sheet i at total ≡ lowest_from sheet i (at + n) (total - n)
  unfolding lowest_from
  passed zero at total h none = let p : at + 0 ≡ at = omega arith in let q : total - 0 ≡ total = omega arith in rw (p, q)
  passed (suc n) at zero h none = absurd (omega arith)
  passed (suc n) at (suc total) h none =
      let z : at + 0 ≡ at = omega arith in
      let p : suc at + n ≡ at + suc n = omega arith in
      let q : total - n ≡ suc total - suc n = omega arith in
      let first : equal_layouts sheet at i ≡ false = rw z at (none 0 (omega arith)) in
      rw first
      (passed n (suc at) total (omega arith) (λ k l. let e : suc at + k ≡ at + suc k = omega arith in rw e (none (suc k) (omega arith)))
      ∙ ap (λ (x : ℕ). lowest_from sheet i x (total - n)) p ∙ ap (lowest_from sheet i (at + suc n)) q)

  pub found : (j : ℕ) → j < i → None sheet i j → equal_layouts sheet j i ≡ true → j ≡ lowest sheet i
  unfolding lowest lowest_from
  found j h none e =
      let more : i - j ≡ suc (i - j - 1) = omega arith in
      sym (passed j 0 i (omega arith) (λ k l. let z : 0 + k ≡ k = omega arith in rw z (none k l))
      ∙ ap (λ (x : ℕ). lowest_from sheet i x (i - j)) (zero_plus j) ∙ ap (lowest_from sheet i j) more ∙ rw e)
    where
      zero_plus : (x : ℕ) → 0 + x ≡ x
      zero_plus x = omega arith

  pub absent : None sheet i i → i ≡ lowest sheet i
  unfolding lowest lowest_from
  absent none =
      let z : i - i ≡ 0 = omega arith in
      sym (passed i 0 i (omega arith) (λ k l. let z : 0 + k ≡ k = omega arith in rw z (none k l)) ∙ rw z (omega arith))

-- ---- from y up

module _ (sheet : List ℕ) where
  pub empty_past : (i : ℕ) → layout_count sheet ≤ i → layout sheet i ≡ []
  unfolding layout layout_length
  empty_past i h = rw (le-ltb i (layout_count sheet) h)

  alike : (i k : ℕ) → layout_count sheet ≤ i → equal_layouts sheet k i ≡ equal_layouts sheet k (layout_count sheet)
  unfolding equal_layouts
  alike i k h = rw (empty_past i h, empty_past (layout_count sheet) (omega arith))

  at_end : (i : ℕ) → layout_count sheet ≤ i → equal_layouts sheet (layout_count sheet) i ≡ true
  unfolding equal_layouts equal_content
  at_end i h = rw (empty_past i h, empty_past (layout_count sheet) (omega arith))

  longer : (i : ℕ) → layout_count sheet ≤ i → (n m at total : ℕ) → at + n ≡ layout_count sheet → total ≡ n + suc m → lowest_from sheet i at total ≡ lowest_from sheet (layout_count sheet) at n
  unfolding lowest_from
  longer i h zero m at zero e t = absurd (omega arith)
  longer i h zero m at (suc total) e t = let p : at ≡ layout_count sheet = omega arith in rw (p, at_end i h)
  longer i h (suc n) m at zero e t = absurd (omega arith)
  longer i h (suc n) m at (suc total) e t = rw (alike i at h, longer i h n m (suc at) total (omega arith) (omega arith))

  -- any number from y up finds what y does
  pub past : (i : ℕ) → layout_count sheet ≤ i → lowest sheet (layout_count sheet) ≡ lowest sheet i
  unfolding lowest
  past i h = go (eq-or-lt_of_le h)
    where
      go : (layout_count sheet ≡ i) ⊎ (layout_count sheet < i) → lowest_from sheet (layout_count sheet) 0 (layout_count sheet) ≡ lowest_from sheet i 0 i
      go (inl e) = rw e
      go (inr l) = sym (longer i h (layout_count sheet) (i - layout_count sheet - 1) 0 i (omega arith) (omega arith))

-- ---- as the code searches

-- the first k slot kinds are alike
abbrev pub Alike : List ℕ → List ℕ → ℕ → Type 0
Alike own other k = (m : ℕ) → m < k → get_or other m 0 ≡ get_or own m 0

module _ (sheet : List ℕ) (i j : ℕ) {own other : List ℕ} (its : other ≡ layout sheet j) (is : own ≡ layout sheet i) where
  -- a length or a slot kind differs
  pub unlike : (other ≡ own → ⊥) → equal_layouts sheet j i ≡ false
  unfolding equal_layouts
  unlike apart = go (equal_content (layout sheet j) (layout sheet i)) refl
    where
      go : (b : Bool) → equal_content (layout sheet j) (layout sheet i) ≡ b → b ≡ false
      go true e = absurd (apart (its ∙ content_path (layout sheet j) (layout sheet i) e ∙ sym is))
      go false e = refl

  -- none does
  pub same : length other ≡ length own → Alike own other (length own) → equal_layouts sheet j i ≡ true
  unfolding equal_layouts
  same long alike =
      let e : other ≡ own = ext_get_or 0 other own long (λ m h. alike m (omega arith)) in
      rw (← its, ← is, e) (content_self own)

-- a number from y up finds what y does, by the number of layouts that was read
pub capped : {sheet : List ℕ} {sizes : Sizes} → Accepted sheet sizes → (i : ℕ) {n : ℕ} → n ≡ min i sizes.layout_count → lowest sheet n ≡ lowest sheet i
capped {sheet} {sizes} a i {n} e = go (ltb i sizes.layout_count) refl
  where
    go : (b : Bool) → ltb i sizes.layout_count ≡ b → lowest sheet n ≡ lowest sheet i
    go true t = let h = ltb-true i sizes.layout_count t in let p : n ≡ i = omega arith in rw p
    go false t =
        let h = ltb-false i sizes.layout_count t in
        let k = counted a.are in
        let p : n ≡ layout_count sheet = omega arith in
        rw p (past sheet i (omega arith))
