-- Every fact of a run has a kind up to `last`, where the transfers and the first row make only such facts: a join makes no other.
-- Assumes nothing.
use mathlib.Core.Path.{◌≡◌, refl, sym, ◌∙◌}
use mathlib.Core.Bool.{Bool, true, false, cond, ◌||◌}
use mathlib.Core.Logic.{◌⊎◌, inl, inr}
use mathlib.Core.List.{List, [], ◌∷◌}
use mathlib.Core.Option.{Option, none, some}
use Prim.Native.Nat.{ℕ, zero, suc, ◌≤◌}
use native.Mathlib.Omega.{arith}
use lib.Dec.{leb, eqb}
use lib.ListN.{set, replicate}
use Rattle.model.specs.Fact.{Fact, unknown, conflict, known, kind, Row, join, join_row}
use Rattle.model.specs.Run.{Analysis, State, RunEnd, finished, overdrawn, fuel_spent, Step, next, ended, row_at, merged, visit, visits, carry, popped, charged, pop, step, and_then, loop, bound, start, run_with, run}
use Rattle.finality.proofs.Invariant.{none_some, row_at-replicate}

-- a row of such facts
abbrev pub Named : ℕ → Row → Type 0
Named last [] = Unit {0}
Named last (f ∷ fs) = (kind f ≤ last) × Named last fs

-- and rows of them
abbrev pub AllNamed : ℕ → List (Option Row) → Type 0
AllNamed last rows = (p : ℕ) (r : Row) → row_at rows p ≡ some r → Named last r

-- what stands at p after a store at q, in range or not
stored : (rows : List (Option Row)) (q : ℕ) (x : Row) (p : ℕ) (r : Row) → row_at (set rows q (some x)) p ≡ some r → (r ≡ x) ⊎ (row_at rows p ≡ some r)
stored [] q x p r e = inr e
stored (o ∷ os) zero x zero r e = inl (cc)
stored (o ∷ os) zero x (suc p) r e = inr e
stored (o ∷ os) (suc q) x zero r e = inr e
stored (o ∷ os) (suc q) x (suc p) r e = stored os q x p r e

module _ (last : ℕ) (h : 1 ≤ last) where
  module _ (same : ℕ → ℕ → ℕ → ℕ → Bool) where
    join_named : (f g : Fact) → kind f ≤ last → kind (join same f g) ≤ last
    unfolding join kind
    join_named conflict g k = h
    join_named unknown conflict k = h
    join_named unknown unknown k = k
    join_named unknown (known l w) k = k
    join_named (known j v) conflict k = h
    join_named (known j v) unknown k = omega arith
    join_named (known j v) (known l w) k = go (same j v l w)
      where
        go : (b : Bool) → kind (cond b (known j v) conflict) ≤ last
        go true = k
        go false = h

    row_named_lem : (r g : Row) → Named last r → Named last (join_row same r g)
    unfolding join_row
    row_named_lem [] g k = tt
    row_named_lem (f ∷ fs) [] k = k
    row_named_lem (f ∷ fs) (g ∷ gs) k = (join_named f g k.0, row_named_lem fs gs k.1)

    merged_named : (o : Option Row) (copy : Row) → ((r : Row) → o ≡ some r → Named last r) → Named last copy → Named last (merged same o copy)
    unfolding merged
    merged_named none copy k c = c
    merged_named (some old) copy k c = row_named_lem old copy (k old refl)

    visit_named : (copy : Row) (q : ℕ) (st : State) → Named last copy → AllNamed last st.rows → AllNamed last (visit same copy q st).rows
    unfolding visit
    visit_named copy q st c k p r e = go (stored st.rows q (merged same (row_at st.rows q) copy) p r e)
      where
        go : (r ≡ merged same (row_at st.rows q) copy) ⊎ (row_at st.rows p ≡ some r) → Named last r
        go (inl w) = rw w (merged_named (row_at st.rows q) copy (k q) c)
        go (inr w) = k p r w

    visits_named : (copy : Row) (qs : List ℕ) (st : State) → Named last copy → AllNamed last st.rows → AllNamed last (visits same copy qs st).rows
    unfolding visits
    visits_named copy [] st c k = k
    visits_named copy (q ∷ qs) st c k = visits_named copy qs (visit same copy q st) c (visit_named copy q st c k)

  module _ (a : Analysis) (moved : (p : ℕ) (r : Row) → Named last r → Named last (a.transfer p r)) (first : Named last a.entry) where
    -- the rows that a run ends with
    abbrev NamedEnd : RunEnd → Type 0
    NamedEnd (finished rows count left) = AllNamed last rows
    NamedEnd (overdrawn requested remaining) = Unit {0}
    NamedEnd fuel_spent = Unit {0}

    abbrev NamedStep : Step → Type 0
    NamedStep (next st) = AllNamed last st.rows
    NamedStep (ended e) = NamedEnd e

    carry_named : (p : ℕ) (o : Option Row) (st : State) → ((r : Row) → o ≡ some r → Named last r) → AllNamed last st.rows → AllNamed last (carry a p o st).rows
    unfolding carry
    carry_named p none st c k = k
    carry_named p (some r) st c k = visits_named a.same (a.transfer p r) (a.successors p) st (moved p r (c r refl)) k

    step_named : (st : State) → AllNamed last st.rows → NamedStep (step a st)
    unfolding step pop charged popped
    step_named st k = go st.list
      where
        taken : (b : Bool) (p : ℕ) (ps : List ℕ) → NamedStep (charged a b p ps st)
        taken true p ps = carry_named p (row_at st.rows p) (popped a ps st) (k p) k
        taken false p ps = tt

        go : (l : List ℕ) → NamedStep (pop a l st)
        go [] = k
        go (p ∷ ps) = taken (leb a.s st.left) p ps

    loop_named : (fuel : ℕ) (st : State) → AllNamed last st.rows → NamedEnd (loop a fuel st)
    unfolding loop and_then
    loop_named zero st k = go (step a st) (step_named st k)
      where
        go : (x : Step) → NamedStep x → NamedEnd (and_then (λ st'. fuel_spent) x)
        go (next st') f = tt
        go (ended e) f = f
    loop_named (suc fuel) st k = go (λ st' k'. loop_named fuel st' k') (step a st) (step_named st k)
      where
        go : ((st' : State) → AllNamed last st'.rows → NamedEnd (loop a fuel st')) → (x : Step) → NamedStep x → NamedEnd (and_then (λ st'. loop a fuel st') x)
        go rest (next st') f = rest st' f
        go rest (ended e) f = f

    none_named : AllNamed last (replicate a.n none)
    none_named p r e = absurd (none_some r (sym (row_at-replicate a.n p) ∙ e))

    start_named : (left : ℕ) → AllNamed last (start a left).rows
    unfolding start
    start_named left p r e = go (stored (replicate a.n none) 0 a.entry p r e)
      where
        go : (r ≡ a.entry) ⊎ (row_at (replicate a.n none) p ≡ some r) → Named last r
        go (inl w) = rw w first
        go (inr w) = none_named p r w

    run_end : (left : ℕ) → NamedEnd (run a left)
    unfolding run run_with
    run_end left = go (eqb a.n 0 || eqb a.s 0)
      where
        go : (b : Bool) → NamedEnd (cond b (finished (replicate a.n none) 0 left) (loop a (bound a) (start a left)))
        go true = none_named
        go false = loop_named (bound a) (start a left) (start_named left)

    pub run_named : (left : ℕ) (rows : List (Option Row)) (count rest : ℕ) → run a left ≡ finished rows count rest → AllNamed last rows
    run_named left rows count rest e = rw e at (run_end left)
