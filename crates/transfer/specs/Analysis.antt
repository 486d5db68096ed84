-- What IndexCheck does, in each analysis.
-- Assumes nothing.
use Rattle.std.specs.Prelude.{Bool, false, ℕ, eqb}
use Rattle.model.specs.Opcode as O
use Rattle.model.specs.declared.AnalysisKind.{AnalysisKind}
use Rattle.model.specs.declared.AnalysisKind.TheVariants.{Constant, IndexCheck, Container}

-- whether the instruction sets a from its length: "IndexCheck then sets a"
unfoldable pub checks_index : AnalysisKind → ℕ → Bool
checks_index Constant op = false
checks_index IndexCheck op = eqb op O.IndexCheck
checks_index Container op = false
