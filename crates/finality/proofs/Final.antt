-- A run ends within n × (1 + 2 × s) steps, and its rows are final.
-- Assumes nothing.
use mathlib.Core.Path.{◌≡◌, refl, sym, ◌∙◌}
use mathlib.Core.Bool.{Bool, true, false}
use mathlib.Core.Logic.{◌⊎◌, inl, inr}
use mathlib.Core.List.Memᴰ.{cases_cons}
use mathlib.Core.List.Memᴰ.{head}
use mathlib.Core.List.Memᴰ.{not-nil}
use mathlib.Core.List.{List, [], ◌∷◌, Memᴰ as Member}
use mathlib.Core.Option.{Option, none, some}
use Prim.Native.Nat.{ℕ, zero, suc, ◌+◌, ◌*◌, ◌≤◌, ◌<◌}
use native.Mathlib.Omega.{arith}
use lib.Dec.{leb, nleb→lt}
use lib.ListN.{length, replicate, length-set, length-replicate}
use lib.Seq.{get_or-set_same}
use Rattle.model.specs.Fact.{Row}
use Rattle.model.specs.Run.{Analysis, State, RunEnd, finished, overdrawn, fuel_spent, Step, next, ended, row_at, popped, charged, pop, step, and_then, loop, bound, start, run_with, run}
use Rattle.model.specs.Demand.{Lawful, Reachable, first, along, Present, Settled, Final, Visited, begun, then}
use Rattle.finality.proofs.Joins.{row_weight-max}
use Rattle.finality.proofs.Potential.{cell_weight, potential_set, potential_replicate}
use Rattle.finality.proofs.Invariant.{Owes, Good, none_some, eqb_pos, row_at-replicate, stored, carry_good, carry_count}

-- How a run with n and s above zero ends: with final rows after at most n × (1 + 2 × s) entries, or by a refused charge of s.
abbrev pub Fair : Analysis → RunEnd → Type 0
Fair a (finished rows count left) = Final a rows × (count ≤ bound a)
Fair a (overdrawn requested remaining) = (requested ≡ a.s) × (remaining < a.s)
Fair a fuel_spent = ⊥

module _ (a : Analysis) (law : Lawful a) where
  open a use {n, s, successors, entry}

  -- ---- the end

  settled_all : (st : State) → Good a [] [] st → st.list ≡ [] → (p : ℕ) (r : Row) → row_at st.rows p ≡ some r
      → (q : ℕ) → Member q (successors p) → Settled a st.rows p r q
  settled_all st g l p r e q m = go (rw l at (g.listed p r e))
    where
      go : (Member p []) ⊎ Owes a [] [] st.rows p r → Settled a st.rows p r q
      go (inl x) = absurd (not-nil x)
      go (inr o) = elim (o q m) [ inl k ↦ k | inr x ↦ absurd (not-nil x.0) ]

  reachable_present : (st : State) → Good a [] [] st → st.list ≡ [] → (p : ℕ) → Reachable a p → Present st.rows p
  reachable_present st g l p (first e) = rw e g.root
  reachable_present st g l p (along {p = o} w m) =
      let x : Present st.rows o = reachable_present st g l o w in
      let k : Settled a st.rows o x.0 p = settled_all st g l o x.0 x.1 p m in
      (k.row, k.present)

  final : (st : State) → Good a [] [] st → st.list ≡ [] → Final a st.rows
  final st g l = record {
    only_reachable = λ p x. g.reached p x.0 x.1;
    all_reachable = reachable_present st g l;
    settled = settled_all st g l;
    row_length = g.row_length;
    size = g.size;
  }

  -- ---- a step from a good state: to a good one, with one more counted, or to the end
  abbrev pub Fine : State → Step → Type 0
  Fine st (next st') = Good a [] [] st' × (st'.count ≡ st.count + 1)
  Fine st (ended e) = Fair a e

  charged_fine : (st : State) → Good a [] [] st → (b : Bool) → leb s st.left ≡ b → (p : ℕ) (ps : List ℕ) → st.list ≡ p ∷ ps
      → Fine st (charged a b p ps st)
  unfolding charged popped
  charged_fine st g true e p ps l =
      (carry_good a law p ps st (row_at st.rows p) l refl g, carry_count a law p (row_at st.rows p) (popped a ps st))
  charged_fine st g false e p ps l = (refl, nleb→lt s st.left (rw e tt))

  pop_fine : (st : State) → Good a [] [] st → (l : List ℕ) → st.list ≡ l → Fine st (pop a l st)
  unfolding pop
  pop_fine st g [] l = (final st g l, omega (arith, g.fits))
  pop_fine st g (p ∷ ps) l = charged_fine st g (leb s st.left) refl p ps l

  pub step_fine : (st : State) → Good a [] [] st → Fine st (step a st)
  unfolding step
  step_fine st g = pop_fine st g st.list refl

  -- ---- the run
  pub loop_outcome : (fuel : ℕ) (st : State) → Good a [] [] st → bound a ≤ st.count + fuel → Fair a (loop a fuel st)
  unfolding loop and_then
  loop_outcome zero st g h = go (step a st) (step_fine st g)
    where
      go : (x : Step) → Fine st x → Fair a (and_then (λ st'. fuel_spent) x)
      go (next st') f = omega (arith, f.0.fits, f.1)
      go (ended e) f = f
  loop_outcome (suc fuel) st g h = go (λ st'. loop_outcome fuel st') (step a st) (step_fine st g)
    where
      go : ((st' : State) → Good a [] [] st' → bound a ≤ st'.count + fuel → Fair a (loop a fuel st'))
          → (x : Step) → Fine st x → Fair a (and_then (λ st'. loop a fuel st') x)
      go rest (next st') f = rest st' f.0 (omega (arith, f.1))
      go rest (ended e) f = f

  pub start_good : (left : ℕ) → 0 < n → Good a [] [] (start a left)
  unfolding start cell_weight
  start_good left hn = record {
    size = length-set none_rows 0 (some entry) ∙ length-replicate n none;
    row_length = λ p r e. elim (stored none_rows 0 entry p r inside e) [ inl w ↦ rw w.1 law.entry_length | inr k ↦ absurd (nothing p r k) ];
    fits = omega (arith, potential_set s none_rows 0 (some entry) inside, cell, potential_replicate s n, row_weight-max entry, law.entry_length);
    reached = λ p r e. elim (stored none_rows 0 entry p r inside e) [ inl w ↦ first w.0 | inr k ↦ absurd (nothing p r k) ];
    root = (entry, get_or-set_same none_rows 0 (some entry) none inside);
    open_rows = λ p m. elim (cases_cons m) [ inl w ↦ (entry, rw w (get_or-set_same none_rows 0 (some entry) none inside)) | inr x ↦ absurd (not-nil x) ];
    listed = λ p r e. elim (stored none_rows 0 entry p r inside e) [ inl w ↦ inl (head w.0) | inr k ↦ absurd (nothing p r k) ];
  }
    where
      none_rows : List (Option Row)
      none_rows = replicate n none

      inside : 0 < length none_rows
      inside = rw (length-replicate {A = Option Row} n none) hn

      nothing : (p : ℕ) (r : Row) → row_at none_rows p ≡ some r → ⊥
      nothing p r e = none_some r (sym (row_at-replicate n p) ∙ e)

      cell : cell_weight s (row_at none_rows 0) ≡ 1 + 2 * s
      cell = rw (row_at-replicate n 0)

  -- ---- what is handed on

  -- With n and s above zero a run ends by the empty list, with final tables and a count within the bound, or by a overdrawn charge.
  pub outcome : (left : ℕ) → 0 < n → 0 < s → Fair a (run a left)
  unfolding run run_with
  outcome left hn hs = rw (eqb_pos n hn, eqb_pos s hs) (loop_outcome (bound a) (start a left) (start_good left hn) (omega arith))

  -- every state of the run is good
  pub visited_good : (left : ℕ) → 0 < n → (st : State) → Visited a left st → Good a [] [] st
  visited_good left hn st (begun e) = rw e (start_good left hn)
  visited_good left hn st (then {st = before} v e) = (rw e at (step_fine before (visited_good left hn before v))).0

  -- so its list and its count are never above n × (1 + 2 × s)
  pub list_fits : (left : ℕ) → 0 < n → (st : State) → Visited a left st → (st.count + length st.list ≤ bound a) × (st.count ≤ bound a)
  list_fits left hn st v = let g : Good a [] [] st = visited_good left hn st v in (omega (arith, g.fits), omega (arith, g.fits))
