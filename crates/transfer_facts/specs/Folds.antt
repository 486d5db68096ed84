-- What an operation on two numbers answers, as a fact.
-- Assumes nothing.
use Rattle.std.specs.Prelude.{ℕ, Option, Some, None}
use Rattle.model.specs.Fact.{Fact, unknown, known}

-- a number, or Unknown
abbrev pub folded : Option ℕ → Fact
folded (Some value) = known 0 value
folded None = unknown
