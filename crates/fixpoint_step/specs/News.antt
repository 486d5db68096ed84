-- The rows that visits leave, and which visits had news. A visit never reads the work list, so both are told without it.
-- Assumes nothing.
use Rattle.std.specs.Prelude.{Bool, cond, List, [], ◌∷◌, ℕ, set}
use Rattle.std.proofs.Math.Option.{Option, some}
use Rattle.model.specs.Fact.{Row}
use Rattle.model.specs.Run.{row_at, merged, news}

module _ (same : ℕ → ℕ → ℕ → ℕ → Bool) (copy : Row) where
  -- the rows behind a visit of q
  unfoldable pub rows_visited : ℕ → List (Option Row) → List (Option Row)
  rows_visited q rows = set rows q (some (merged same (row_at rows q) copy))

  -- and behind visits of each, in order
  unfoldable pub rows_after : List ℕ → List (Option Row) → List (Option Row)
  rows_after [] rows = rows
  rows_after (q ∷ qs) rows = rows_after qs (rows_visited q rows)

  -- those that had news, in order
  unfoldable pub news_of : List ℕ → List (Option Row) → List ℕ
  news_of [] rows = []
  news_of (q ∷ qs) rows = cond (news same (row_at rows q) copy) (q ∷ news_of qs (rows_visited q rows)) (news_of qs (rows_visited q rows))
