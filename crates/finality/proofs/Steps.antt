-- What a step does, by what a program tests: the empty list, a charge that is refused, a charge that is covered.
-- Assumes nothing.
use mathlib.Core.Path.{◌≡◌, refl}
use mathlib.Core.Bool.{Bool, true, false, not}
use mathlib.Core.List.{List, [], ◌∷◌}
use mathlib.Core.Option.{some}
use Prim.Native.Nat.{ℕ, ◌≤◌, ◌<◌}
use lib.Arith.{lt→nleb}
use lib.Dec.{T, leb, le→leb}
use Rattle.model.specs.Fact.{Row}
use Rattle.model.specs.Run.{Analysis, State, finished, overdrawn, next, ended, row_at, visits, carry, popped, charged, pop, step}
use Rattle.model.proofs.Equality.{T_true}

pub T_false : (b : Bool) → T (not b) → b ≡ false
T_false true t = absurd t
T_false false t = refl

module _ (a : Analysis) (st : State) where
  pub step_empty : st.list ≡ [] → step a st ≡ ended (finished st.rows st.count st.left)
  unfolding step pop
  step_empty l = rw l

  module _ (p : ℕ) (ps : List ℕ) (l : st.list ≡ p ∷ ps) where
    pub step_refused : st.left < a.s → step a st ≡ ended (overdrawn a.s st.left)
    unfolding step pop charged
    step_refused h = rw (l, T_false (leb a.s st.left) (lt→nleb a.s st.left h))

    pub step_next : a.s ≤ st.left → (r : Row) → row_at st.rows p ≡ some r
        → step a st ≡ next (visits a.same (a.transfer p r) (a.successors p) (popped a ps st))
    unfolding step pop charged carry
    step_next h r e = rw (l, T_true (leb a.s st.left) (le→leb a.s st.left h), e)
