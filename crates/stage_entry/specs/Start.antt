-- Where the parameters begin, as `model` says it.
-- Assumes nothing.
-- `Option` is the definitions' own, and `StdOption` std's, which functions answer.
use Rattle.std.proofs.Math.Option.{Option, none, some}
use Rattle.std.specs.Prelude.{ℕ, Option as StdOption, Some, None}

-- the start that is answered, in the words of the definitions
abbrev pub param_start_of : StdOption ℕ → Option ℕ
param_start_of (Some slot) = some slot
param_start_of None = none
