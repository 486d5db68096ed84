-- What the instructions but 0 show of a slot.
-- Assumes nothing.
use mathlib.Core.Path.{◌≡◌}
use mathlib.Core.Bool.{true, false, ◌&&◌}
use mathlib.Core.List.{List}
use Prim.Native.Nat.{ℕ, suc, ◌+◌, ◌*◌, ◌-◌, ◌≤◌, ◌<◌}
use native.Mathlib.Omega.{arith}
use lib.Dec.{leb, eqb}
use lib.ListN.{get_or}
use borrow.Author.Tests.{le-leb, lt-leb}
use Rattle.model.specs.Lookup.{Shown, one_shown, mixed_shown, show, show_if, shown, cell_at}
use Rattle.model.specs.declared.FactCell.{FactCell}
use Rattle.lookup.specs.Shown.{shown_by}
use Rattle.lookup.specs.declared.tables.shown.Seen.{Seen}
use Rattle.lookup.specs.declared.tables.shown.Seen.TheVariants.{Nothing, One, Mixed}

module _ (cell : FactCell) (seen : Seen) where
  pub not_known : cell.kind < 2 → mixed_shown ≡ show (leb 2 cell.kind) cell.kind cell.value (shown_by seen)
  unfolding show
  not_known h = rw (lt-leb 2 cell.kind h)

  module _ (h : 2 ≤ cell.kind) where
    pub first_shown : seen ≡ Nothing → one_shown cell.kind cell.value ≡ show (leb 2 cell.kind) cell.kind cell.value (shown_by seen)
    unfolding show
    first_shown e = rw (le-leb 2 cell.kind h, e)

    pub shown_again : (first : FactCell) → seen ≡ One first.kind first.value → (eqb cell.kind first.kind && eqb cell.value first.value) ≡ true
        → one_shown first.kind first.value ≡ show (leb 2 cell.kind) cell.kind cell.value (shown_by seen)
    unfolding show
    shown_again first e s = rw (le-leb 2 cell.kind h, e, s)

    pub shows_other : (first : FactCell) → seen ≡ One first.kind first.value → (eqb cell.kind first.kind && eqb cell.value first.value) ≡ false
        → mixed_shown ≡ show (leb 2 cell.kind) cell.kind cell.value (shown_by seen)
    unfolding show
    shows_other first e s = rw (le-leb 2 cell.kind h, e, s)

    pub still_mixed : seen ≡ Mixed → mixed_shown ≡ show (leb 2 cell.kind) cell.kind cell.value (shown_by seen)
    unfolding show
    still_mixed e = rw (le-leb 2 cell.kind h, e)

-- one more instruction: the last is pc
pub shown_more : (s : ℕ) (present kinds values : List ℕ) (j pc : ℕ) (before after : Shown) → 1 ≤ pc
    → before ≡ shown s present kinds values j (pc - 1)
    → after ≡ show_if (eqb (get_or present pc 0) 1) (get_or kinds (pc * s + j) 0) (get_or values (pc * s + j) 0) before
    → after ≡ shown s present kinds values j (pc + 1 - 1)
unfolding shown cell_at
shown_more s present kinds values j pc before after h b a =
    let p : pc ≡ suc (pc - 1) = omega arith in
    let q : pc + 1 - 1 ≡ suc (pc - 1) = omega arith in
    rw (q, ← p, ← b) a
