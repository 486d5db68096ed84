-- Each entry taken is charged s work units: what is left and pops × s make what the run started with.
-- Assumes nothing.
use mathlib.Core.Path.{◌≡◌, refl}
use mathlib.Core.Bool.{Bool, true, false}
use mathlib.Core.List.{List, [], ◌∷◌}
use mathlib.Core.Option.{Option, none, some}
use Prim.Native.Nat.{ℕ, ◌+◌, ◌*◌}
use native.Mathlib.Omega.{arith}
use lib.Dec.{leb, leb→le}
use Rattle.model.specs.Fact.{Row}
use Rattle.model.specs.Run.{Analysis, State, RunEnd, finished, overdrawn, fuel_spent, Step, next, ended, row_at, visit, visits, carry, popped, charged, pop, step, start}
use Rattle.model.specs.Demand.{Lawful, Ends, stops, goes}
use Rattle.finality.proofs.Invariant.{carry_count}

module _ (a : Analysis) (law : Lawful a) where
  open a use {n, s, successors, transfer, same}

  -- ---- the work units

  abbrev pub Paid : ℕ → RunEnd → Type 0
  Paid left (finished rows count rest) = rest + count * s ≡ left
  Paid left (overdrawn requested remaining) = Unit {0}
  Paid left fuel_spent = Unit {0}

  abbrev PaidStep : ℕ → Step → Type 0
  PaidStep left (next st) = st.left + st.count * s ≡ left
  PaidStep left (ended e) = Paid left e

  visits_left : (copy : Row) (qs : List ℕ) (st : State) → (visits same copy qs st).left ≡ st.left
  unfolding visits visit
  visits_left copy [] st = refl
  visits_left copy (q ∷ qs) st = visits_left copy qs (visit same copy q st)

  carry_left : (p : ℕ) (o : Option Row) (st : State) → (carry a p o st).left ≡ st.left
  unfolding carry
  carry_left p none st = refl
  carry_left p (some r) st = visits_left (transfer p r) (successors p) st

  step_paid : (left : ℕ) (st : State) → st.left + st.count * s ≡ left → PaidStep left (step a st)
  unfolding step pop charged popped
  step_paid left st h = go st.list
    where
      paid : (b : Bool) → leb s st.left ≡ b → (p : ℕ) (ps : List ℕ) → PaidStep left (charged a b p ps st)
      paid true e p ps =
          rw (carry_left p (row_at st.rows p) (popped a ps st), carry_count a law p (row_at st.rows p) (popped a ps st))
          (omega (arith, leb→le s st.left (rw e tt)))
      paid false e p ps = tt

      go : (l : List ℕ) → PaidStep left (pop a l st)
      go [] = h
      go (p ∷ ps) = paid (leb s st.left) refl p ps

  pub ends_paid : (left : ℕ) (st : State) (e : RunEnd) → st.left + st.count * s ≡ left → Ends a st e → Paid left e
  ends_paid left st e h (stops x) = rw x at (step_paid left st h)
  ends_paid left st e h (goes {st' = t} x k) = ends_paid left t e (rw x at (step_paid left st h)) k

  pub start_paid : (left : ℕ) → (start a left).left + (start a left).count * s ≡ left
  unfolding start
  start_paid left = omega arith
