-- The loop that asks question 2: from size j on, after those below have passed.
-- Assumes nothing.
use mathlib.Core.Path.{◌≡◌, ◌∙◌}
use mathlib.Core.Bool.{Bool, true, false, ◌&&◌}
use mathlib.Core.List.{List}
use Prim.Native.Nat.{ℕ, ◌+◌, ◌≤◌, ◌<◌}
use native.Mathlib.Numerals.{add-one}
use lib.Dec.{leb}
use lib.ListN.{length, get_or, drop}
use lib.Seq.{drop-cons, drop-length}
use borrow.Author.Tests.{le-leb, lt-leb}
use Rattle.model.specs.Sheet.{size, within_limits}

within_step : (sheet ls : List ℕ) (j : ℕ) → j < length ls → within_limits sheet j (drop j ls) ≡ (leb (size sheet j) (get_or ls j 0) && within_limits sheet (j + 1) (drop (j + 1) ls))
unfolding within_limits
within_step sheet ls j h = rw (add-one, drop-cons ls j 0)

module _ (sheet : List ℕ) (j : ℕ) (ls : List ℕ) {answer : Bool} (so : answer ≡ within_limits sheet j (drop j ls)) (h : j < length ls) where
  pub within_passed : size sheet j ≤ get_or ls j 0 → answer ≡ within_limits sheet (j + 1) (drop (j + 1) ls)
  within_passed p = so ∙ within_step sheet ls j h ∙ rw (le-leb _ _ p)

  pub within_failed : get_or ls j 0 < size sheet j → answer ≡ false
  within_failed p = so ∙ within_step sheet ls j h ∙ rw (lt-leb _ _ p)

pub within_all : (sheet : List ℕ) (j : ℕ) (ls : List ℕ) {answer : Bool} → answer ≡ within_limits sheet j (drop j ls) → j ≡ length ls → answer ≡ true
unfolding within_limits
within_all sheet j ls so e = so ∙ rw (e, drop-length ls)
