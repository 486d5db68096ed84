-- The fuel of a run does not matter: whoever passes through its states and comes to an end has computed it.
-- Assumes nothing.
use mathlib.Core.Path.{◌≡◌, refl}
use Prim.Native.Nat.{ℕ, zero, suc, ◌≤◌, ◌<◌}
use native.Mathlib.Omega.{arith}
use Rattle.model.specs.Run.{Analysis, State, RunEnd, fuel_spent, Step, next, ended, step, and_then, loop, bound, start, run_with, run}
use Rattle.model.specs.Demand.{Lawful, Visited, begun, then, Ends, stops, goes}
use Rattle.finality.proofs.Invariant.{eqb_pos}
use Rattle.finality.proofs.Final.{loop_outcome, start_good}

module _ (a : Analysis) (law : Lawful a) where
  open a use {n, s}

  -- ---- the fuel does not matter

  -- a state has one end
  pub ends_unique : (st : State) (d e : RunEnd) → Ends a st d → Ends a st e → d ≡ e
  ends_unique st d e (stops x) (stops y) = cc
  ends_unique st d e (stops x) (goes y k) = cc
  ends_unique st d e (goes x h) (stops y) = cc
  ends_unique st d e (goes {st' = t} x h) (goes {st' = t'} y k) = let w : t ≡ t' = cc in ends_unique t d e h (rw w k)

  -- a loop that finishes comes to that end
  loop_ends : (fuel : ℕ) (st : State) → (loop a fuel st ≡ fuel_spent → ⊥) → Ends a st (loop a fuel st)
  unfolding loop and_then
  loop_ends zero st h = go (step a st) refl h
    where
      go : (x : Step) → step a st ≡ x → (and_then (λ st'. fuel_spent) x ≡ fuel_spent → ⊥) → Ends a st (and_then (λ st'. fuel_spent) x)
      go (next st') e k = absurd (k refl)
      go (ended d) e k = stops e
  loop_ends (suc fuel) st h = go (λ st'. loop_ends fuel st') (step a st) refl h
    where
      go : ((st' : State) → (loop a fuel st' ≡ fuel_spent → ⊥) → Ends a st' (loop a fuel st'))
          → (x : Step) → step a st ≡ x → (and_then (λ st'. loop a fuel st') x ≡ fuel_spent → ⊥) → Ends a st (and_then (λ st'. loop a fuel st') x)
      go rest (next st') e k = goes e (rest st' k)
      go rest (ended d) e k = stops e

  -- with enough fuel the run comes to its end
  run_ends : (fuel left : ℕ) → bound a ≤ fuel → 0 < n → 0 < s → Ends a (start a left) (run_with a fuel left)
  unfolding run_with
  run_ends fuel left enough hn hs =
      rw (eqb_pos n hn, eqb_pos s hs)
      (loop_ends fuel (start a left)
      (λ e. rw e at (loop_outcome a law fuel (start a left) (start_good a law left hn) (omega arith))))

  pub ends_at : (left : ℕ) → 0 < n → 0 < s → Ends a (start a left) (run a left)
  unfolding run
  ends_at left hn hs = run_ends (bound a) left (omega arith) hn hs

  -- so more fuel changes nothing
  pub more_fuel : (fuel left : ℕ) → bound a ≤ fuel → 0 < n → 0 < s → run_with a fuel left ≡ run a left
  more_fuel fuel left enough hn hs =
      ends_unique (start a left) (run_with a fuel left) (run a left) (run_ends fuel left enough hn hs) (ends_at left hn hs)

  visited_ends : (left : ℕ) (st : State) (e : RunEnd) → Visited a left st → Ends a st e → Ends a (start a left) e
  visited_ends left st e (begun w) k = rw (← w) k
  visited_ends left st e (then {st = before} v x) k = visited_ends left before e v (goes x k)

  -- A loop that passes through the run's states and comes to an end has computed the run: all that a program has to show.
  pub run_is : (left : ℕ) → 0 < n → 0 < s → (st : State) (e : RunEnd) → Visited a left st → step a st ≡ ended e → run a left ≡ e
  run_is left hn hs st e v x = ends_unique (start a left) (run a left) e (ends_at left hn hs) (visited_ends left st e v (stops x))
