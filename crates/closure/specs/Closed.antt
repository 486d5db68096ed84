-- What a closure leaves: its answer and the slots.
-- Assumes nothing.
use Rattle.std.specs.Prelude.{◌≡◌, ℕ, ◌*◌, List, length, Result, Ok, Err}
use Rattle.std.proofs.Math.Option.{some}
use Rattle.model.specs.Charges.{units, Metered, ◌>>◌, spend_bytes}
use Rattle.model.specs.Closure.{tracked_slots}
use Rattle.model.specs.Call.{zeros}
use Rattle.model.specs.declared.AnalysisKind.{AnalysisKind}
use Rattle.model.specs.declared.VerifierResources.{VerifierResources}
use Rattle.budget.specs.Outcome.{Outcome, leaves, leaves_of}
use Rattle.budget.specs.declared.Refused.{Refused}
use Rattle.closure_marks.specs.Slots.{fitted}
use Rattle.closure.specs.declared.Tracked.{Tracked}

-- "mark 1, work slot 2" for each of L
unfoldable pub scratch_charges : ℕ → ℕ → Metered (Unit {0})
scratch_charges stage l = spend_bytes stage (l * units.mark) >> spend_bytes stage (l * units.work_slot)

-- How many slots are tracked, and the slots that are lent.
pub record Closed : Type 0 where
  pub s : ℕ
  pub slots : List ℕ

abbrev pub closed : ℕ → List ℕ → Closed
closed s slots = record { s = s; slots = slots }

-- the tracked slots in those that are lent, where they fit
abbrev pub closed_by : List ℕ → List ℕ → Closed
closed_by lent tracked = closed (length tracked) (fitted tracked lent)

-- the outcome of a closure's charges
abbrev pub outcome_of : Result Tracked Refused → Outcome
outcome_of (Ok tracked) = Ok tracked.left
outcome_of (Err refused) = Err refused

-- how many slots are tracked, none after a refusal
abbrev pub count_of : Result Tracked Refused → ℕ
count_of (Ok tracked) = tracked.s
count_of (Err refused) = 0

-- the tracked slots, or nothing after a refusal; marks and stack are zero again
pub record TrackEnsures (which : AnalysisKind) (sheet : List ℕ) (budget : VerifierResources) (marks stack slots : List ℕ) (r : Result Tracked Refused) (marks' stack' slots' : List ℕ) : Type 0 where
  pub closes : some (leaves (outcome_of r) (closed (count_of r) slots')) ≡ leaves_of (closed_by slots) (closed 0 slots) (tracked_slots which sheet budget)
  pub no_marks : marks' ≡ zeros marks
  pub no_entries : stack' ≡ zeros stack
