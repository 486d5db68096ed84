-- A row of cells that a loop joins from the left: the first i places are joined.
-- Assumes nothing.
use mathlib.Core.Path.{◌≡◌, refl, sym, ap, ◌∙◌}
use mathlib.Core.Logic.{◌≢◌}
use mathlib.Core.Bool.{Bool, true, false, ◌&&◌, ◌||◌, or-true, or-false}
use mathlib.Core.List.{List, ◌++◌, map}
use Prim.Native.Nat.{ℕ, ◌+◌, ◌≤◌, ◌<◌}
use native.Mathlib.Numerals.{add-one}
use native.Mathlib.Omega.{arith}
use lib.Dec.{eqb}
use lib.ListN.{length, get_or, set, take, drop, length-map, length-set}
use borrow.Author.Tests.{eqb-true}
use lib.Seq.{take_all, set-get_or}
use Rattle.model.specs.Fact.{Fact, kind, value, differs, row_differs, join}
use Rattle.model.specs.Tables.{row_slices, RowLies, fact_of, facts_of, fact_in, cell_of}
use Rattle.model.specs.declared.FactCell.{FactCell}
use Rattle.join.specs.Rows.{JoinedRow}
use Rattle.join.proofs.CellJoins.{cell_joined}
use Rattle.join.proofs.Prefixes.{fill_get, fill_set, fill_done}
use Rattle.join.proofs.CellChanges.{kept, same_kind, other_kind, joined_self}
use Rattle.model.proofs.Tests.{both_left, both_right}
use Rattle.model.proofs.Facts.{length_facts_lem, lies_kinds, lies_values}
use Rattle.join.proofs.JoinedPlaces.{facts_of-get, joined, join_at, changed_to, joined_length, joined_get, changed_to-suc}

pub record Partly (same : ℕ → ℕ → ℕ → ℕ → Bool) (ok ov nk nv kinds values : List ℕ) (changed : Bool) (i : ℕ) : Type 0 where
  pub within : i ≤ length ok
  pub lies : RowLies (facts_of ok ov) (row_slices ok ov)
  pub level : length ov ≡ length ok
  pub nk_long : length nk ≡ length ok
  pub nv_long : length nv ≡ length ok
  pub kinds_long : length kinds ≡ length ok
  pub values_long : length values ≡ length ok
  pub kinds_are : kinds ≡ take i (map kind (joined same ok ov nk nv)) ++ drop i ok
  pub values_are : values ≡ take i (map value (joined same ok ov nk nv)) ++ drop i ov
  pub changed_is : changed ≡ changed_to same ok ov nk nv i

module _ {same : ℕ → ℕ → ℕ → ℕ → Bool} {ok ov nk nv : List ℕ} where
  -- past the point where the branches meet
  pub carried : {kinds values k v : List ℕ} {changed ch : Bool} {i : ℕ} → kinds ≡ k → values ≡ v → changed ≡ ch
      → Partly same ok ov nk nv k v ch i → Partly same ok ov nk nv kinds values changed i
  carried a b c p = rw (a, b, c) p

  pub partly_start : RowLies (facts_of ok ov) (row_slices ok ov) → length nk ≡ length ok → length nv ≡ length ok → Partly same ok ov nk nv ok ov false 0
  unfolding changed_to row_differs
  partly_start e a b = record {
    within = omega arith;
    lies = e;
    level = lies_values e ∙ sym (lies_kinds e);
    nk_long = a;
    nv_long = b;
    kinds_long = refl;
    values_long = lies_values e ∙ sym (lies_kinds e);
    kinds_are = refl;
    values_are = refl;
    changed_is = refl;
  }

  module _ {kinds values : List ℕ} {changed : Bool} {i : ℕ} (p : Partly same ok ov nk nv kinds values changed i) where
    long : (f : Fact → ℕ) → length (map f (joined same ok ov nk nv)) ≡ length ok
    long f = length-map (joined same ok ov nk nv) f ∙ joined_length same (facts_of ok ov) (facts_of nk nv) ∙ length_facts_lem ok ov p.level

    pub partly_end : length kinds ≤ i → JoinedRow same (row_slices ok ov) (row_slices nk nv) (row_slices kinds values) changed
    unfolding changed_to
    partly_end h =
        let end : i ≡ length ok = omega (arith, p.within, p.kinds_long) in
        let all : length (joined same ok ov nk nv) ≡ i = joined_length same (facts_of ok ov) (facts_of nk nv) ∙ length_facts_lem ok ov p.level ∙ sym end in
        record {
          lies = record {
            kinds_are = p.kinds_are ∙ fill_done (map kind (joined same ok ov nk nv)) ok i (sym (long kind)) (omega (arith, long kind));
            values_are = p.values_are ∙ fill_done (map value (joined same ok ov nk nv)) ov i (p.level ∙ sym (long value)) (omega (arith, long value));
          };
          changed_is = rw (take_all i (facts_of ok ov) (omega (arith, length_facts_lem ok ov p.level)), take_all i (joined same ok ov nk nv) (omega (arith, all))) at p.changed_is;
        }

    module _ (h : i < length kinds) where
      below : i < length ok
      below = omega (arith, p.kinds_long)

      at_kind : get_or kinds i 0 ≡ get_or ok i 0
      at_kind = rw p.kinds_are (fill_get (map kind (joined same ok ov nk nv)) ok i (sym (long kind)))

      at_value : get_or values i 0 ≡ get_or ov i 0
      at_value = rw p.values_are (fill_get (map value (joined same ok ov nk nv)) ov i (p.level ∙ sym (long value)))

      here : Fact
      here = join_at same ok ov nk nv i

      step : (ch : Bool) → ch ≡ changed || differs (fact_of (get_or ok i 0) (get_or ov i 0)) here
          → Partly same ok ov nk nv (set kinds i (kind here)) (set values i (value here)) ch (i + 1)
      unfolding here
      step ch e = record {
        within = omega (arith, below);
        lies = p.lies;
        level = p.level;
        nk_long = p.nk_long;
        nv_long = p.nv_long;
        kinds_long = length-set kinds i (kind here) ∙ p.kinds_long;
        values_long = length-set values i (value here) ∙ p.values_long;
        kinds_are =
            rw (add-one i, p.kinds_are, ← (joined_get same kind ok ov nk nv i p.level p.nk_long p.nv_long below))
            (fill_set (map kind (joined same ok ov nk nv)) ok i (rw (long kind) below) (sym (long kind)));
        values_are =
            rw (add-one i, p.values_are, ← (joined_get same value ok ov nk nv i p.level p.nk_long p.nv_long below))
            (fill_set (map value (joined same ok ov nk nv)) ov i (rw (long value) below) (p.level ∙ sym (long value)));
        changed_is = e ∙ rw (add-one i, changed_to-suc same ok ov nk nv i p.level p.nk_long p.nv_long below, p.changed_is);
      }

      -- the cell at i, joined by the code
      module _ (c : FactCell) (made : c ≡ cell_of (join same (fact_in (cell_joined (get_or kinds i 0) (get_or values i 0))) (fact_in (cell_joined (get_or nk i 0) (get_or nv i 0))))) where
        is : c ≡ cell_of here
        unfolding here fact_in
        is = rw (at_kind, at_value) at made

        kind_is : c.kind ≡ kind here
        unfolding cell_of
        kind_is = ap (λ (x : FactCell). x.kind) is

        value_is : c.value ≡ value here
        unfolding cell_of
        value_is = ap (λ (x : FactCell). x.value) is

        encoded_here : get_or ov i 0 ≡ value (fact_of (get_or ok i 0) (get_or ov i 0))
        encoded_here = ap (λ (l : List ℕ). get_or l i 0) p.lies.values_are ∙ facts_of-get value ok ov i p.level below

        -- what the code stores where the kind is another
        pub partly_changed : c.kind ≢ get_or kinds i 0 → Partly same ok ov nk nv (set kinds i c.kind) (set values i c.value) true (i + 1)
        unfolding here
        partly_changed other =
            rw (kind_is, value_is)
            (step true
            (sym (or-true changed) ∙ ap (λ (x : Bool). changed || x) (sym (other_kind same (get_or ok i 0) (get_or ov i 0) (fact_of (get_or nk i 0) (get_or nv i 0)) (λ q. other (kind_is ∙ q ∙ sym at_kind))))))

        -- and where it is not, what it leaves
        pub partly_kept : c.kind ≡ get_or kinds i 0 → Partly same ok ov nk nv kinds values changed (i + 1)
        unfolding here
        partly_kept e =
            let k : kind here ≡ get_or ok i 0 = sym kind_is ∙ e ∙ at_kind in
            let v : value here ≡ get_or ov i 0 = kept same (get_or ok i 0) (get_or ov i 0) (fact_of (get_or nk i 0) (get_or nv i 0)) encoded_here k in
            rw (k, v, ← at_kind, ← at_value, set-get_or kinds i 0, set-get_or values i 0) at
            (step changed
            (sym (or-false changed) ∙ ap (λ (x : Bool). changed || x) (sym (same_kind same (get_or ok i 0) (get_or ov i 0) (fact_of (get_or nk i 0) (get_or nv i 0)) encoded_here k))))

      -- an equal cell is left
      pub partly_equal : ((k v : ℕ) → same k v k v ≡ true) → eqb (get_or kinds i 0) (get_or nk i 0) && eqb (get_or values i 0) (get_or nv i 0) ≡ true
          → Partly same ok ov nk nv kinds values changed (i + 1)
      unfolding cell_of fact_in
      partly_equal r e =
          let k : get_or kinds i 0 ≡ get_or nk i 0 = eqb-true _ _ (both_left _ _ e) in
          let v : get_or values i 0 ≡ get_or nv i 0 = eqb-true _ _ (both_right _ _ e) in
          partly_kept _ refl (rw (← k, ← v) (joined_self same r (get_or kinds i 0) (get_or values i 0)))
