-- What one step makes of the rows that lie in the lent slices.
-- Assumes nothing.
use Rattle.std.specs.Prelude.{◌≡◌, List, ℕ, length}
use Rattle.std.proofs.Math.Option.{Option, some}
use Rattle.model.specs.Fact.{Fact, Row, equal_known}
use Rattle.model.specs.Successors.{sheet_successors, as_record}
use Rattle.model.specs.Run.{row_at}
use Rattle.model.specs.Tables.{TableSlices, RowsLie, RowSlices, RowLies}
use Rattle.model.specs.Transfer.{transfer_row}
use Rattle.model.specs.declared.InstructionSuccessors.{InstructionSuccessors}
use Rattle.fixpoint_step.specs.declared.tracked.TrackedAnalysis.{TrackedAnalysis}
use Rattle.fixpoint_step.specs.Lengths.{lengths_in}
use Rattle.fixpoint_step.specs.News.{rows_after, news_of}

-- the sheet of an analysis, and its facts of lengths
abbrev pub sheet_of : TrackedAnalysis → List ℕ
sheet_of a = a.indexed.now.sheet.now.bytes.now

abbrev pub lengths_of : TrackedAnalysis → ℕ → Fact
lengths_of a = lengths_in a.lengths.now

-- What a step of p makes of whatever rows lie there, and which successors had news.
unfoldable pub StepEnsures : TrackedAnalysis → ℕ → TableSlices → TableSlices → InstructionSuccessors → Type 0
StepEnsures a p old new r =
    (rows : List (Option Row)) (row : Row) → RowsLie (length a.slots.now) rows old → row_at rows p ≡ some row
    → RowsLie (length a.slots.now) (rows_after (equal_known a.which (sheet_of a)) (transfer_row a.which (sheet_of a) a.slots.now (lengths_of a) p row) (sheet_successors (sheet_of a) p) rows) new
    × (r ≡ as_record (news_of (equal_known a.which (sheet_of a)) (transfer_row a.which (sheet_of a) a.slots.now (lengths_of a) p row) (sheet_successors (sheet_of a) p) rows))

-- The row scratch behind it: the copy of p's row, whatever row stands there, behind the transfer.
unfoldable pub CopyEnsures : TrackedAnalysis → ℕ → TableSlices → RowSlices → Type 0
CopyEnsures a p t copy =
    (rows : List (Option Row)) (row : Row) → RowsLie (length a.slots.now) rows t → row_at rows p ≡ some row
    → (length (transfer_row a.which (sheet_of a) a.slots.now (lengths_of a) p row) ≡ length a.slots.now)
    × RowLies (transfer_row a.which (sheet_of a) a.slots.now (lengths_of a) p row) copy
