-- One instruction's present byte and its cell of a slot: what the tests show of the definitions, and that the cell lies in the table.
-- Assumes nothing.
use mathlib.Core.Path.{◌≡◌, refl, sym, ap, ◌∙◌}
use mathlib.Core.Bool.{true, false, ◌&&◌, ◌||◌, and-false, and-true}
use mathlib.Core.List.{List}
use mathlib.Core.Option.{Option, none, some}
use Prim.Native.Nat.{ℕ, zero, suc, ◌+◌, ◌*◌, ◌≤◌, ◌<◌}
use mathlib.Core.Logic.{◌⊎◌, inl, inr}
use native.Mathlib.Nat.{mul-le-mul_right, not-suc-le-zero, eq-or-lt_of_le}
use native.Mathlib.Numerals.{add-one}
use native.Mathlib.Omega.{arith}
use Rattle.std.specs.Prelude.{Ok, Err}
use lib.Dec.{leb, eqb}
use lib.ListN.{length, get_or}
use borrow.Author.Tests.{lt-leb, eq-eqb, ne_eqb}
use Rattle.model.specs.Call.{Table}
use Rattle.model.specs.Count.{every}
use Rattle.model.specs.Lookup.{last_kind, cell_at, cell_found, none_found, kind_named, row_named, cell, damaged, is_reachable, reached_by}
use Rattle.lookup.specs.Inside.{rows_named}

-- place j of a row below n lies in the table
pub in_table : (pc n s j cells : ℕ) → pc < n → j < s → cells ≡ n * s → pc * s + j < cells
in_table pc n s j cells h k e = omega (arith, mul-le-mul_right s h)

-- ---- question 9 of a row, and its cell

module _ (last : ℕ) (t : Table) (pc byte : ℕ) (e : byte ≡ get_or t.present pc 0) where
  pub untracked_row : leb byte 1 ≡ row_named last (length t.slots) t.present t.kinds none pc
  unfolding row_named kind_named
  untracked_row = rw (← e) (sym (and-true (leb byte 1)))

  pub present_row_lem : (j : ℕ) → byte ≡ 1 → leb (get_or t.kinds (pc * length t.slots + j) 0) last ≡ row_named last (length t.slots) t.present t.kinds (some j) pc
  unfolding row_named kind_named cell_at
  present_row_lem j h = rw (← e, h)

  -- any other byte is named where it is 0
  pub other_row : (j : ℕ) → (byte ≡ 1 → ⊥) → eqb byte 0 ≡ row_named last (length t.slots) t.present t.kinds (some j) pc
  unfolding row_named kind_named
  other_row j h = rw (← e) (go byte h)
    where
      go : (b : ℕ) → (b ≡ 1 → ⊥) → eqb b 0 ≡ (leb b 1 && (eqb b 0 || leb (cell_at (length t.slots) t.kinds pc j) last))
      go zero k = refl
      go (suc zero) k = absurd (k refl)
      go (suc (suc b)) k = rw (lt-leb (suc (suc b)) 1 (omega arith), ne_eqb (suc (suc b)) 0 (λ q. omega arith))

module _ (t : Table) (pc byte : ℕ) (e : byte ≡ get_or t.present pc 0) where
  pub no_row : (j : Option ℕ) → (byte ≡ 1 → ⊥) → none_found ≡ cell (eqb (get_or t.present pc 0) 1) (length t.slots) t.kinds t.values pc j
  unfolding cell
  no_row j h = rw (← e, ne_eqb byte 1 h)

  pub no_slot : byte ≡ 1 → none_found ≡ cell (eqb (get_or t.present pc 0) 1) (length t.slots) t.kinds t.values pc none
  unfolding cell
  no_slot h = rw (← e, eq-eqb byte 1 h)

  pub the_cell : (j : ℕ) → byte ≡ 1
      → cell_found (get_or t.kinds (pc * length t.slots + j) 0) (get_or t.values (pc * length t.slots + j) 0)
      ≡ cell (eqb (get_or t.present pc 0) 1) (length t.slots) t.kinds t.values pc (some j)
  unfolding cell cell_at
  the_cell j h = rw (← e, eq-eqb byte 1 h)

-- ---- `is_reachable`

module _ (present : List ℕ) (pc byte : ℕ) (e : byte ≡ get_or present pc 0) where
  pub not_reached : byte ≡ 0 → Ok false ≡ is_reachable present pc
  unfolding is_reachable reached_by
  not_reached h = rw (← e, h)

  pub reached : byte ≡ 1 → Ok true ≡ is_reachable present pc
  unfolding is_reachable reached_by
  reached h = rw (← e, h)

  pub unreadable : (byte ≡ 0 → ⊥) → (byte ≡ 1 → ⊥) → Err damaged ≡ is_reachable present pc
  unfolding is_reachable reached_by
  unreadable h k = rw (← e) (go byte h k)
    where
      go : (b : ℕ) → (b ≡ 0 → ⊥) → (b ≡ 1 → ⊥) → Err damaged ≡ reached_by b
      go zero h k = absurd (h refl)
      go (suc zero) h k = absurd (k refl)
      go (suc (suc b)) h k = refl

-- ---- of every instruction

module _ (s : ℕ) (present kinds : List ℕ) (j : Option ℕ) where
  pub rows_none : rows_named s present kinds j 0 ≡ true
  unfolding rows_named every
  rows_none = refl

  pub rows_more : (pc : ℕ) → rows_named s present kinds j pc ≡ true → true ≡ row_named 3 s present kinds j pc → rows_named s present kinds j (pc + 1) ≡ true
  unfolding rows_named every last_kind
  rows_more pc h k = rw (add-one pc, h) (sym k)

  -- one that is not named settles it
  pub rows_refused : (n pc : ℕ) → pc < n → false ≡ row_named 3 s present kinds j pc → false ≡ rows_named s present kinds j n
  unfolding rows_named every last_kind
  rows_refused zero pc h k = absurd (not-suc-le-zero h)
  rows_refused (suc n) pc h k = let u : pc ≤ n = omega arith in go (λ l. rows_refused n pc l k) (eq-or-lt_of_le u)
    where
      go : (pc < n → false ≡ every (λ q. row_named 3 s present kinds j q) n) → (pc ≡ n) ⊎ (pc < n)
          → false ≡ (every (λ q. row_named 3 s present kinds j q) n && row_named 3 s present kinds j n)
      go earlier (inl e) = sym (ap (λ b. every (λ q. row_named 3 s present kinds j q) n && b) (ap (row_named 3 s present kinds j) (sym e) ∙ sym k) ∙ and-false (every (λ q. row_named 3 s present kinds j q) n))
      go earlier (inr l) = rw (← earlier l)
