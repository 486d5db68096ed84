-- What a visit asks, and what it makes of the rows that lie in the lent slices.
-- Assumes nothing.
use Rattle.std.specs.Prelude.{◌≡◌, Bool, List, [], ◌∷◌, ◌++◌, ℕ, ◌*◌, ◌≤◌, ◌<◌, cond, ltb, length, get_or}
use Rattle.std.proofs.Math.Option.{Option}
use Rattle.model.specs.Fact.{Row}
use Rattle.model.specs.Run.{row_at, news}
use Rattle.model.specs.Sheet.{code_count}
use Rattle.model.specs.Successors.{as_record}
use Rattle.model.specs.Tables.{TableSlices, RowsLie, RowSlices, RowLies}
use Rattle.model.specs.declared.InstructionSuccessors.{InstructionSuccessors}
use Rattle.fixpoint_step.specs.News.{rows_visited, rows_after, news_of}

-- Tables in which rows lie, and a row to copy or to join. (The lengths follow from what lies there; arithmetic reads them.)
pub record Visitable (t : TableSlices) (row : RowSlices) : Type 0 where
  pub row_values_length : length row.values ≡ length row.kinds
  pub kinds_length : length t.kinds ≡ length t.present * length row.kinds
  pub values_length : length t.values ≡ length t.present * length row.kinds
  pub rows : List (Option Row)
  pub copy : Row
  pub rows_lie : RowsLie (length row.kinds) rows t
  pub copy_lies : RowLies copy row

-- a visit of q: that is an instruction
pub record JoinRequires (q : ℕ) (t : TableSlices) (row : RowSlices) : Type 0 where
  pub below : q < length t.present
  pub visitable : Visitable t row

-- What a visit of q makes of whatever rows lie in the tables: the row is the copy or is joined with it, and the answer says whether there is news.
unfoldable pub JoinEnsures : (ℕ → ℕ → ℕ → ℕ → Bool) → ℕ → TableSlices → RowSlices → TableSlices → Bool → Type 0
JoinEnsures same q old row new r =
    (rows : List (Option Row)) (copy : Row) → RowsLie (length row.kinds) rows old → RowLies copy row → q < length rows
    → RowsLie (length row.kinds) (rows_visited same copy q rows) new × (r ≡ news same (row_at rows q) copy)

-- all successors of p
pub record SuccessorsRequires (sheet : List ℕ) (p : ℕ) (t : TableSlices) (row : RowSlices) : Type 0 where
  pub below : p < code_count sheet
  pub little : code_count sheet ≤ 4096
  pub present_length : length t.present ≡ code_count sheet
  pub visitable : Visitable t row

-- "Then each successor in order": what the visits make of whatever rows lie there, and which had news.
unfoldable pub SuccessorsEnsures : (ℕ → ℕ → ℕ → ℕ → Bool) → List ℕ → TableSlices → RowSlices → TableSlices → InstructionSuccessors → Type 0
SuccessorsEnsures same targets old row new r =
    (rows : List (Option Row)) (copy : Row) → RowsLie (length row.kinds) rows old → RowLies copy row
    → RowsLie (length row.kinds) (rows_after same copy targets rows) new × (r ≡ as_record (news_of same copy targets rows))

-- the k-th of at most two successors, if there is one
unfoldable pub successor_at : InstructionSuccessors → ℕ → List ℕ
successor_at next k = cond (ltb k next.len) (get_or next.pcs k 0 ∷ []) []

-- the visit of the k-th: if there is one, it is an instruction, and the record of those that had news has room for it
pub record NextRequires (next : InstructionSuccessors) (k : ℕ) (had : InstructionSuccessors) (t : TableSlices) (row : RowSlices) : Type 0 where
  pub among : k < 2
  pub below : k < next.len → get_or next.pcs k 0 < length t.present
  pub room : k < next.len → had.len < 2
  pub visitable : Visitable t row

-- What is told of the visits before it is told with it.
unfoldable pub NextEnsures : (ℕ → ℕ → ℕ → ℕ → Bool) → InstructionSuccessors → ℕ → InstructionSuccessors → TableSlices → RowSlices → TableSlices → InstructionSuccessors → Type 0
NextEnsures same next k had old row new r =
    (targets : List ℕ) (t : TableSlices) → SuccessorsEnsures same targets t row old had → SuccessorsEnsures same (targets ++ successor_at next k) t row new r
