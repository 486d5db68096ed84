-- Facts written into a row, slot by slot.
-- Assumes nothing.
use mathlib.Core.Path.{◌≡◌, refl, sym, ap, ◌∙◌}
use mathlib.Core.Bool.{Bool, true, false, cond, ◌||◌}
use mathlib.Core.List.{List, [], ◌∷◌, map}
use mathlib.Core.Logic.{◌⊎◌, inl, inr}
use Prim.Native.Nat.{ℕ, zero, suc, ◌+◌, ◌≤◌, ◌<◌}
use native.Mathlib.Nat.{not-suc-le-zero, le_of_suc-le-suc, eq-or-lt_of_le}
use native.Mathlib.Omega.{arith}
use lib.Dec.{ltb}
use borrow.Author.Tests.{ltb-true, ltb-false}
use lib.ListN.{length, get_or, set, length-set, length-map, get_or-map}
use lib.Seq.{get_or-set_same, get_or-set_other, ext_get_or}
use Rattle.model.specs.Fact.{Fact, unknown, kind, value, Row}
use Rattle.model.specs.Tables.{RowSlices, row_slices, RowLies, cell_of}
use Rattle.model.specs.Transfer.{each_cell, replaced}
use Rattle.model.specs.declared.FactCell.{FactCell}
use Rattle.transfer.specs.Wrote.{Wrote}

-- ---- places written from the front on, where the test holds

module _ (touched : ℕ → Bool) (new : ℕ → ℕ) (old : List ℕ) where
  pub record FrontWritten (out : List ℕ) (j : ℕ) : Type 0 where
    pub long : length out ≡ length old
    pub done : (k : ℕ) → k < j → get_or out k 0 ≡ cond (touched k) (new k) (get_or old k 0)
    pub rest : (k : ℕ) → j ≤ k → get_or out k 0 ≡ get_or old k 0

  pub front_written_none : (j : ℕ) → ((k : ℕ) → k < j → touched k ≡ false) → FrontWritten old j
  front_written_none j h = record { long = refl; done = λ k l. rw (h k l); rest = λ k l. refl }

  module _ {out : List ℕ} {j : ℕ} (p : FrontWritten out j) where
    pub front_written_more : {v : ℕ} → j < length old → touched j ≡ true → v ≡ new j → FrontWritten (set out j v) (j + 1)
    front_written_more {v} h t e = record {
      long = length-set out j v ∙ p.long;
      done = λ k l. let m : k ≤ j = omega arith in go k (eq-or-lt_of_le m);
      rest = λ k l. get_or-set_other out j k v 0 (λ q. omega arith) ∙ p.rest k (omega arith);
    }
      where
        go : (k : ℕ) → (k ≡ j) ⊎ (k < j) → get_or (set out j v) k 0 ≡ cond (touched k) (new k) (get_or old k 0)
        go k (inl q) = rw (q, t) (get_or-set_same out j v 0 (omega (arith, p.long)) ∙ e)
        go k (inr q) = get_or-set_other out j k v 0 (λ s. omega arith) ∙ p.done k q

    pub front_written_all : ((k : ℕ) → j ≤ k → k < length old → touched k ≡ false) → (k : ℕ) → k < length old → get_or out k 0 ≡ cond (touched k) (new k) (get_or old k 0)
    front_written_all h k l = go (ltb k j) refl
      where
        go : (t : Bool) → ltb k j ≡ t → get_or out k 0 ≡ cond (touched k) (new k) (get_or old k 0)
        go true q = p.done k (ltb-true k j q)
        go false q = rw (h k (ltb-false k j q) l) (p.rest k (ltb-false k j q))

-- ---- rows, slot by slot

module _ (cell : ℕ → Fact → Fact) where
  pub length_each : (slots : List ℕ) (row : Row) → length row ≡ length slots → length (each_cell cell slots row) ≡ length slots
  unfolding each_cell
  length_each [] row n = refl
  length_each (t ∷ ts) [] n = n
  length_each (t ∷ ts) (f ∷ fs) n = ap suc (length_each ts fs (omega arith))

  pub each_at : (slots : List ℕ) (row : Row) (k : ℕ) → length row ≡ length slots → k < length slots
      → get_or (each_cell cell slots row) k unknown ≡ cell (get_or slots k 0) (get_or row k unknown)
  unfolding each_cell
  each_at [] row k n l = absurd (not-suc-le-zero l)
  each_at (t ∷ ts) [] k n l = absurd (omega arith)
  each_at (t ∷ ts) (f ∷ fs) zero n l = refl
  each_at (t ∷ ts) (f ∷ fs) (suc k) n l = each_at ts fs k (omega arith) (le_of_suc-le-suc l)

-- ---- what is written, as a row

chosen : (f : Fact → ℕ) (t : Bool) (old new : Fact) → cond t (f new) (f old) ≡ f (replaced t old new)
unfolding replaced
chosen f true old new = refl
chosen f false old new = refl

-- one of the two tables: f is kind or value, and g the same of a cell
module _ (f : Fact → ℕ) (none : f unknown ≡ 0) (g : FactCell → ℕ) (agree : (x : Fact) → g (cell_of x) ≡ f x)
    (slots : List ℕ) (writes : ℕ → Bool) (cell : ℕ → FactCell) (row : Row) (test : ℕ → Bool) (fact : ℕ → Fact)
    (below : (k : ℕ) → k < length slots → get_or slots k 0 < 65536)
    (same : (slot : ℕ) → slot < 65536 → writes slot ≡ test slot)
    (cells : (slot : ℕ) → cell slot ≡ cell_of (fact slot)) where
  table_is : (old out : List ℕ) → old ≡ map f row → length old ≡ length slots → length out ≡ length old
      → ((k : ℕ) → k < length old → get_or out k 0 ≡ cond (writes (get_or slots k 0)) (g (cell (get_or slots k 0))) (get_or old k 0))
      → out ≡ map f (each_cell (λ slot x. replaced (test slot) x (fact slot)) slots row)
  table_is old out is n m h =
      ext_get_or 0 out (map f goal) (m ∙ n ∙ sym (length_each step slots row rows) ∙ sym (length-map goal f))
      (λ k l. at k (omega arith))
    where
      step : ℕ → Fact → Fact
      step slot x = replaced (test slot) x (fact slot)

      goal : Row
      goal = each_cell step slots row

      rows : length row ≡ length slots
      rows = omega (arith, ap length is, length-map row f)

      read : (xs : Row) (k : ℕ) → get_or (map f xs) k 0 ≡ f (get_or xs k unknown)
      read xs k = ap (λ (z : ℕ). get_or (map f xs) k z) (sym none) ∙ get_or-map f xs k unknown

      at : (k : ℕ) → k < length slots → get_or out k 0 ≡ get_or (map f goal) k 0
      at k l =
          rw (
            h k (omega arith),
            same (get_or slots k 0) (below k l),
            cells (get_or slots k 0),
            agree (fact (get_or slots k 0)),
            is,
            read row k,
            read goal k,
            each_at step slots row k rows l,
          )
          (chosen f (test (get_or slots k 0)) (get_or row k unknown) (fact (get_or slots k 0)))

module _ (slots : List ℕ) (writes : ℕ → Bool) (cell : ℕ → FactCell) (kinds values : List ℕ)
    (nk : length kinds ≡ length slots) (nv : length values ≡ length slots) where
  -- both tables, by their places
  pub wrote : (kinds' values' : List ℕ) → length kinds' ≡ length kinds → length values' ≡ length values
      → ((k : ℕ) → k < length kinds → get_or kinds' k 0 ≡ cond (writes (get_or slots k 0)) (cell (get_or slots k 0)).kind (get_or kinds k 0))
      → ((k : ℕ) → k < length values → get_or values' k 0 ≡ cond (writes (get_or slots k 0)) (cell (get_or slots k 0)).value (get_or values k 0))
      → Wrote slots writes cell (row_slices kinds values) (row_slices kinds' values')
  wrote kinds' values' mk mv hk hv = record {
    kinds_long = mk ∙ nk;
    values_long = mv ∙ nv;
    kinds_are = λ k l. hk k (omega arith);
    values_are = λ k l. hv k (omega arith);
  }

  -- nothing
  pub wrote_none : ((slot : ℕ) → writes slot ≡ false) → Wrote slots writes cell (row_slices kinds values) (row_slices kinds values)
  wrote_none h = wrote kinds values refl refl (λ k l. rw (h (get_or slots k 0))) (λ k l. rw (h (get_or slots k 0)))

  -- Whatever facts the cells stand for, and whatever test holds of the same slots, this is the row that `each_cell` gives. No slot lies past 65,535.
  pub wrote_row : {new : RowSlices} → Wrote slots writes cell (row_slices kinds values) new → ((k : ℕ) → k < length slots → get_or slots k 0 < 65536)
      → (row : Row) (test : ℕ → Bool) (fact : ℕ → Fact) → RowLies row (row_slices kinds values) → ((slot : ℕ) → slot < 65536 → writes slot ≡ test slot)
      → ((slot : ℕ) → cell slot ≡ cell_of (fact slot)) → RowLies (each_cell (λ slot f. replaced (test slot) f (fact slot)) slots row) new
  unfolding kind value cell_of
  wrote_row {new} w below row test fact l same cells = record {
    kinds_are =
        table_is kind refl (λ c. c.kind) (λ x. refl) slots writes cell row test fact below same cells kinds new.kinds l.kinds_are nk
        (w.kinds_long ∙ sym nk)
        (λ k h. w.kinds_are k (omega arith));
    values_are =
        table_is value refl (λ c. c.value) (λ x. refl) slots writes cell row test fact below same cells values new.values l.values_are nv
        (w.values_long ∙ sym nv)
        (λ k h. w.values_are k (omega arith));
  }

-- first where one test holds, then where another does
both : (s t : Bool) (x y : ℕ) → cond t y (cond s y x) ≡ cond (s || t) y x
both true true x y = refl
both true false x y = refl
both false t x y = refl

pub wrote_both : {slots : List ℕ} {first second : ℕ → Bool} {cell : ℕ → FactCell} {old mid new : RowSlices} (all : ℕ → Bool)
    → ((slot : ℕ) → all slot ≡ first slot || second slot) → Wrote slots first cell old mid → Wrote slots second cell mid new → Wrote slots all cell old new
wrote_both {slots} {first} {second} all is u w = record {
  kinds_long = w.kinds_long;
  values_long = w.values_long;
  kinds_are = λ k h. rw (w.kinds_are k h, u.kinds_are k h, is (get_or slots k 0)) (both (first (get_or slots k 0)) (second (get_or slots k 0)) _ _);
  values_are = λ k h. rw (w.values_are k h, u.values_are k h, is (get_or slots k 0)) (both (first (get_or slots k 0)) (second (get_or slots k 0)) _ _);
}
