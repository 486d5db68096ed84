-- What a part of the call that spends comes to and leaves, as the definitions have it.
-- Assumes nothing.
use Rattle.std.specs.Prelude.{Result, Ok, Err}
use Rattle.std.proofs.Math.Option.{Option, none, some}
use Rattle.model.specs.Charges.{Refusal, over_budget, no_room, Spent, ok, stop, unfinished}
use Rattle.model.specs.declared.VerifierResources.{VerifierResources}
use Rattle.budget.specs.declared.Refused.{Refused}
use Rattle.budget.specs.declared.Refused.TheVariants.{OverBudget, NoRoom}

-- What a part of the call that spends comes to: what is left, or what ends it.
abbrev pub Outcome : Type 0
Outcome = Result VerifierResources Refused

-- "7, with stage (1 to 5 in charge order), requested, remaining", or 8
unfoldable pub refused_by : Refusal → VerifierResources → Refused
refused_by (over_budget stage requested remaining) left = OverBudget stage requested remaining left
refused_by no_room left = NoRoom left

-- An outcome as a part of the call. Every outcome goes somewhere of its own, so a contract through it determines it.
unfoldable pub as_spent : Outcome → Spent (Unit {0})
as_spent (Ok left) = ok tt left
as_spent (Err (OverBudget stage requested remaining left)) = stop (over_budget stage requested remaining) left
as_spent (Err (NoRoom left)) = stop no_room left

-- "what the covered charges left", where one is refused
unfoldable pub left_after : Refused → VerifierResources
left_after (OverBudget stage requested remaining left) = left
left_after (NoRoom left) = left

-- "what the covered charges left", refused or not
unfoldable pub left_of : Outcome → VerifierResources
left_of (Ok left) = left
left_of (Err refused) = left_after refused

-- What a part answers and leaves in memory.
pub record Leaves (M : Type 0) : Type 0 where
  pub outcome : Outcome
  pub memory : M

abbrev pub leaves : {M : Type 0} → Outcome → M → Leaves M
leaves outcome memory = record { outcome = outcome; memory = memory }

-- The outcome of a part, with the memory of what it gives, or the memory after a refusal. None where a loop's fuel was too little, which does not happen.
unfoldable pub leaves_of : {A M : Type 0} → (A → M) → M → Spent A → Option (Leaves M)
leaves_of given refused (ok a left) = some (leaves (Ok left) (given a))
leaves_of given refused (stop refusal left) = some (leaves (Err (refused_by refusal left)) refused)
leaves_of given refused unfinished = none
