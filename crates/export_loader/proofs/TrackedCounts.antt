-- The closure without a budget gives exactly the tracked slots, and the s of every call that ends with facts are its numbers.
-- Assumes nothing.
use mathlib.Core.Path.{◌≡◌, refl, ap}
use mathlib.Core.Bool.{Bool, true}
use mathlib.Core.List.{List}
use mathlib.Core.Option.{some}
use Prim.Native.Nat.{ℕ, ◌*◌}
use native.Mathlib.Omega.{arith}
use lib.ListN.{length}
use Rattle.model.specs.Sheet.{code_count, local_slots}
use Rattle.model.specs.Charges.{ok}
use Rattle.model.specs.Closure.{tracked_slots}
use Rattle.model.specs.Analyses.{Facts, ask_room}
use Rattle.model.specs.Call.{Lent, completed, call, counts}
use Rattle.model.specs.CallDemand.{TrackedExactly}
use Rattle.model.specs.declared.VerifierResources.{VerifierResources}
use Rattle.model.specs.declared.AnalysisKind.{AnalysisKind}
use Rattle.model.specs.declared.AnalysisKind.TheVariants.{Constant, IndexCheck, Container}
use Rattle.finality.proofs.Closure.{closure_exact}
use Rattle.finality.proofs.Call.{call_demand}
use Rattle.model.specs.Room.{closure_slots}
use Rattle.export_loader.proofs.Unlimited.{slots_same, slots_given}

-- its slots are exactly the tracked ones
pub closure_slots_exact : (which : AnalysisKind) (sheet : List ℕ) → TrackedExactly which sheet (closure_slots which sheet)
closure_slots_exact which sheet =
    let enough : VerifierResources = record { bytes = 3 * local_slots sheet; work = local_slots sheet * (2 * code_count sheet) } in
    let g = slots_given which sheet enough (omega arith) (omega arith) in
    closure_exact which sheet enough (closure_slots which sheet) g.left g.is

-- whatever budget a call ends with facts from, its s are those of the closures
pub record RoomExact (sheet : List ℕ) (facts : Facts) : Type 0 where
  pub constants : (counts facts.constants).tracked ≡ length (closure_slots Constant sheet)
  pub index : (counts facts.index).tracked ≡ length (closure_slots IndexCheck sheet)
  pub containers : (counts facts.containers).tracked ≡ length (closure_slots Container sheet)

pub room_exact : (sheet : List ℕ) (budget : VerifierResources) (lent : Lent) (facts : Facts) (left : VerifierResources)
    → call sheet budget lent ≡ some (completed facts left) → RoomExact sheet facts
unfolding counts
room_exact sheet budget lent facts left e =
    let d = call_demand sheet budget lent facts left e in
    record {
      constants = ap length (slots_same Constant sheet _ _ _ d.constants_made.tracked);
      index = ap length (slots_same IndexCheck sheet _ _ _ d.index_made.tracked);
      containers = ap length (slots_same Container sheet _ _ _ d.containers_made.tracked);
    }

-- Where an analysis is asked 8, it is asked for these slots: memory that is enough for them is enough for the call, whatever its budget.
pub room_enough : (which : AnalysisKind) (sheet : List ℕ) (enough : ℕ → Bool) → enough (length (closure_slots which sheet)) ≡ true
    → (before closed : VerifierResources) (slots : List ℕ) → tracked_slots which sheet before ≡ ok slots closed
    → ask_room (enough (length slots)) closed ≡ ok tt closed
unfolding ask_room
room_enough which sheet enough h before closed slots e = rw (slots_same which sheet before slots closed e, h) refl
