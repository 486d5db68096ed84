-- Where a slot stands, as `model` says it, and what is stored there.
-- Assumes nothing.
-- `Option` is the definitions' own, and `StdOption` std's, which functions answer.
use Rattle.std.specs.Prelude.{List, ℕ, set, Option as StdOption, Some, None}
use Rattle.std.proofs.Math.Option.{Option, none, some}

-- the place that is answered
abbrev pub placed : StdOption ℕ → Option ℕ
placed (Some j) = some j
placed None = none

-- a list with another number at a place, if there is one
unfoldable pub set_at : Option ℕ → List ℕ → ℕ → List ℕ
set_at none xs x = xs
set_at (some j) xs x = set xs j x
