-- A range of ascending slots, written from its first tracked slot on, and several ranges one after the other.
-- Assumes nothing.
use mathlib.Core.Path.{◌≡◌, refl, sym, ap, ◌∙◌}
use mathlib.Core.Bool.{true, false}
use mathlib.Core.List.{List}
use mathlib.Core.Logic.{◌⊎◌, inl, inr}
use Prim.Native.Nat.{ℕ, ◌+◌, ◌-◌, ◌≤◌, ◌<◌}
use native.Mathlib.Nat.{eq-or-lt_of_le}
use native.Mathlib.Numerals.{add-one}
use native.Mathlib.Omega.{arith}
use lib.ListN.{length, get_or, set}
use borrow.Author.Tests.{lt-ltb, le-ltb}
use Rattle.model.specs.Lookup.{ascends}
use Rattle.model.specs.Sheet.{range_start, range_length}
use Rattle.model.specs.Tables.{row_slices}
use Rattle.model.specs.Written.{in_range, in_ranges}
use Rattle.model.specs.declared.FactCell.{FactCell}
use Rattle.transfer_written.proofs.RangeTests.{starts_before, from_start}
use Rattle.transfer_written.proofs.RangeLoop.{ranges_suc}
use Rattle.fact_row.specs.Rows.{Bound}
use Rattle.fact_row.proofs.Ascending.{ascends_lt}
use Rattle.transfer.specs.Wrote.{Wrote}
use Rattle.transfer.proofs.SlotWrites.{FrontWritten, front_written_none, front_written_more, front_written_all, wrote, wrote_none, wrote_both}

-- ---- one range

module _ (slots : List ℕ) (start count : ℕ) (cell : ℕ → FactCell) (kinds values : List ℕ) where
  -- j slots lie before the range or are written
  pub record Writing (kinds' values' : List ℕ) (j : ℕ) : Type 0 where
    pub within : j ≤ length slots
    pub long : (length kinds ≡ length slots) × (length values ≡ length slots)
    pub kinds_long : length kinds' ≡ length slots
    pub values_long : length values' ≡ length slots
    pub from : (k : ℕ) → j ≤ k → k < length slots → start ≤ get_or slots k 0
    pub kinds_partly : FrontWritten (λ k. in_range (get_or slots k 0) start count) (λ k. (cell (get_or slots k 0)).kind) kinds kinds' j
    pub values_partly : FrontWritten (λ k. in_range (get_or slots k 0) start count) (λ k. (cell (get_or slots k 0)).value) values values' j

  pub writing_start : (j : ℕ) → length kinds ≡ length slots → length values ≡ length slots → Bound slots start j → Writing kinds values j
  writing_start j nk nv b = record {
    within = b.within;
    long = (nk, nv);
    kinds_long = nk;
    values_long = nv;
    from = b.above;
    kinds_partly = front_written_none _ _ kinds j (λ k l. sym (starts_before (get_or slots k 0) start count (b.below k l)));
    values_partly = front_written_none _ _ values j (λ k l. sym (starts_before (get_or slots k 0) start count (b.below k l)));
  }

  module _ {kinds' values' : List ℕ} {j : ℕ} (w : Writing kinds' values' j) where
    pub writing_more : {r : FactCell} → j < length slots → get_or slots j 0 - start < count → r ≡ cell (get_or slots j 0)
        → Writing (set kinds' j r.kind) (set values' j r.value) (j + 1)
    writing_more {r} h l e =
        let t : in_range (get_or slots j 0) start count ≡ true = sym (from_start (get_or slots j 0) start count (w.from j (omega arith) h)) ∙ lt-ltb _ _ l in
        let pk = front_written_more _ _ kinds w.kinds_partly (omega (arith, w.long)) t (ap (λ (c : FactCell). c.kind) e) in
        let pv = front_written_more _ _ values w.values_partly (omega (arith, w.long)) t (ap (λ (c : FactCell). c.value) e) in
        record {
          within = omega arith;
          long = w.long;
          kinds_long = pk.long ∙ w.long.0;
          values_long = pv.long ∙ w.long.1;
          from = λ k m u. w.from k (omega arith) u;
          kinds_partly = pk;
          values_partly = pv;
        }

    done : ((k : ℕ) → j ≤ k → k < length slots → in_range (get_or slots k 0) start count ≡ false)
        → Wrote slots (λ slot. in_range slot start count) cell (row_slices kinds values) (row_slices kinds' values')
    done h =
        wrote slots (λ slot. in_range slot start count) cell kinds values w.long.0 w.long.1 kinds' values'
        w.kinds_partly.long
        w.values_partly.long
        (front_written_all _ _ kinds w.kinds_partly (λ k m u. h k m (omega (arith, w.long))))
        (front_written_all _ _ values w.values_partly (λ k m u. h k m (omega (arith, w.long))))

    pub written_range : ascends slots ≡ true → j < length slots → count ≤ get_or slots j 0 - start
        → Wrote slots (λ slot. in_range slot start count) cell (row_slices kinds values) (row_slices kinds' values')
    written_range asc h l = done (λ k m u. sym (from_start (get_or slots k 0) start count (w.from k m u)) ∙ le-ltb _ _ (later k u (eq-or-lt_of_le m)))
      where
        later : (k : ℕ) → k < length slots → (j ≡ k) ⊎ (j < k) → count ≤ get_or slots k 0 - start
        later k u (inl q) = rw (sym q) l
        later k u (inr q) = omega (arith, ascends_lt slots asc j k q u)

-- a range behind all slots
pub wrote_beyond : (slots : List ℕ) (start count : ℕ) (cell : ℕ → FactCell) (kinds values : List ℕ)
    → length kinds ≡ length slots → length values ≡ length slots → ((k : ℕ) → k < length slots → get_or slots k 0 < start)
    → Wrote slots (λ slot. in_range slot start count) cell (row_slices kinds values) (row_slices kinds values)
wrote_beyond slots start count cell kinds values nk nv h =
    wrote slots (λ slot. in_range slot start count) cell kinds values nk nv kinds values refl refl
    (λ k l. rw (← starts_before (get_or slots k 0) start count (h k (omega arith))))
    (λ k l. rw (← starts_before (get_or slots k 0) start count (h k (omega arith))))

-- so, where the last slot lies before it
pub last_below : (slots : List ℕ) (start : ℕ) → ascends slots ≡ true → get_or slots (length slots - 1) 0 < start → (k : ℕ) → k < length slots → get_or slots k 0 < start
last_below slots start asc h k l = let m : k ≤ length slots - 1 = omega arith in go (eq-or-lt_of_le m)
  where
    go : (k ≡ length slots - 1) ⊎ (k < length slots - 1) → get_or slots k 0 < start
    go (inl q) = rw q h
    go (inr q) = omega (arith, ascends_lt slots asc k (length slots - 1) q (omega arith))

-- ---- several

module _ (sheet : List ℕ) (first : ℕ) (slots : List ℕ) (cell : ℕ → FactCell) (kinds values : List ℕ) where
  -- the first i ranges are written
  abbrev pub Ranging : List ℕ → List ℕ → ℕ → Type 0
  Ranging kinds' values' i = Wrote slots (λ slot. in_ranges sheet slot first i) cell (row_slices kinds values) (row_slices kinds' values')

  pub ranging_start : length kinds ≡ length slots → length values ≡ length slots → Ranging kinds values 0
  unfolding in_ranges
  ranging_start nk nv = wrote_none slots (λ slot. in_ranges sheet slot first 0) cell kinds values nk nv (λ slot. refl)

  module _ (i : ℕ) {kinds' values' : List ℕ} {start : ℕ} (r : Ranging kinds' values' i) (e : start ≡ range_start sheet (first + i)) where
    pub ranging_more : {kinds'' values'' : List ℕ} {count : ℕ} → count ≡ range_length sheet (first + i)
        → Wrote slots (λ slot. in_range slot start count) cell (row_slices kinds' values') (row_slices kinds'' values'') → Ranging kinds'' values'' (i + 1)
    ranging_more d w = wrote_both (λ slot. in_ranges sheet slot first (i + 1)) (λ slot. rw (add-one i, e, d) (ranges_suc sheet slot first i)) r w

    -- one that lies behind all slots
    pub ranging_beyond : ascends slots ≡ true → get_or slots (length slots - 1) 0 < start → Ranging kinds' values' (i + 1)
    ranging_beyond asc h =
        ranging_more refl (wrote_beyond slots start (range_length sheet (first + i)) cell kinds' values' r.kinds_long r.values_long (last_below slots start asc h))
