-- The counts and the answer, by the outcome of the analyses.
-- Assumes nothing.
use Rattle.budget.specs.declared.Refused.TheVariants.{OverBudget, NoRoom}
use Rattle.budget.specs.Outcome.{Outcome}
use Rattle.std.specs.Prelude.{Err, Ok, Bool, true, false}
use Rattle.model.specs.declared.Counts.{Counts}
use Rattle.model.specs.declared.Answer.{Answer}
use Rattle.model.specs.declared.Answer.TheVariants as A
use Rattle.stage_memory.specs.Staged.{no_counts}

-- no counts where an analysis was refused
unfoldable pub counts_unless : Bool → Counts → Counts
counts_unless true counts = no_counts
counts_unless false counts = counts

-- "answers s and the pop count of each analysis and the budget"; 7; 8
unfoldable pub answer_of : Outcome → Counts → Counts → Counts → Answer
answer_of (Ok left) constant index container = A.Analyzed constant index container left
answer_of (Err (OverBudget stage requested remaining left)) constant index container = A.OverBudget stage requested remaining left
answer_of (Err (NoRoom left)) constant index container = A.NoRoom left
