-- Demand 3, once for every analysis that is lawful.
-- Assumes nothing.
use mathlib.Core.Path.{◌≡◌, refl, sym, ◌∙◌}
use mathlib.Core.Bool.{Bool, true, false, cond, ◌||◌}
use mathlib.Core.Logic.{◌⊎◌, inl, inr}
use mathlib.Core.Option.{none}
use Prim.Native.Nat.{ℕ, ◌<◌}
use native.Mathlib.Omega.{arith}
use lib.Dec.{eqb}
use lib.ListN.{replicate}
use Rattle.model.specs.Run.{Analysis, finished, loop, bound, start, run_with, run}
use Rattle.model.specs.Demand.{Lawful, Demand3}
use Rattle.finality.proofs.Invariant.{zero_or_above}
use Rattle.finality.proofs.Final.{outcome, list_fits}
use Rattle.finality.proofs.Fuel.{ends_at, more_fuel}
use Rattle.finality.proofs.Work.{ends_paid, start_paid}

module _ (a : Analysis) (law : Lawful a) where
  open a use {n, s}

  -- with n or s zero no fuel is needed
  at_once : (fuel left : ℕ) → (n ≡ 0) ⊎ (s ≡ 0) → run_with a fuel left ≡ finished (replicate n none) 0 left
  unfolding run_with
  at_once fuel left (inl e) = let z : eqb n 0 ≡ true = rw e in rw z
  at_once fuel left (inr e) = let z : eqb s 0 ≡ true = rw e in rw z (go (eqb n 0))
    where
      go : (b : Bool) → cond (b || true) (finished (replicate n none) 0 left) (loop a fuel (start a left)) ≡ finished (replicate n none) 0 left
      go true = refl
      go false = refl

  none_run : (left : ℕ) → (n ≡ 0) ⊎ (s ≡ 0) → run a left ≡ finished (replicate n none) 0 left
  unfolding run
  none_run left z = at_once (bound a) left z

  pub demand3 : (left : ℕ) → Demand3 a left
  demand3 left = go (zero_or_above n) (zero_or_above s)
    where
      -- with n or s zero
      still : (n ≡ 0) ⊎ (s ≡ 0) → (0 < n → 0 < s → ⊥) → Demand3 a left
      still z w =
          let e₀ : run a left ≡ finished (replicate n none) 0 left = none_run left z in record {
            ends = λ e. let k : ◌≡◌ {A = ℕ} 0 1 = cc in omega arith;
            more_fuel = λ fuel h. at_once fuel left z ∙ sym e₀;
            pops = λ rows count rest e. let k : 0 ≡ count = cc in omega arith;
            list = λ hn st v. (list_fits a law left hn st v).0;
            fuel_free = λ hn hs. absurd (w hn hs);
            tables = λ hn hs rows count rest e. absurd (w hn hs);
            work = λ rows count rest e. let k : count ≡ 0 = cc in let l : rest ≡ left = cc in rw (k, l) (omega arith);
            refusal = λ requested remaining e. let k : ◌≡◌ {A = ℕ} 0 1 = cc in absurd (omega arith);
            at_once = none_run left;
          }

      moving : 0 < n → 0 < s → Demand3 a left
      moving hn hs = record {
        ends = λ e. rw e at (outcome a law left hn hs);
        more_fuel = λ fuel h. more_fuel a law fuel left h hn hs;
        pops = λ rows count rest e. (rw e at (outcome a law left hn hs)).1;
        list = λ hn st v. (list_fits a law left hn st v).0;
        fuel_free = λ _ _. ends_at a law left hn hs;
        tables = λ _ _ rows count rest e. (rw e at (outcome a law left hn hs)).0;
        work = λ rows count rest e. rw e at (ends_paid a law left (start a left) (run a left) (start_paid a law left) (ends_at a law left hn hs));
        refusal = λ requested remaining e. rw e at (outcome a law left hn hs);
        at_once = none_run left;
      }

      go : (n ≡ 0) ⊎ (0 < n) → (s ≡ 0) ⊎ (0 < s) → Demand3 a left
      go (inl e) y = still (inl e) (λ hn hs. omega arith)
      go (inr hn) (inl e) = still (inr e) (λ hn hs. omega arith)
      go (inr hn) (inr hs) = moving hn hs
