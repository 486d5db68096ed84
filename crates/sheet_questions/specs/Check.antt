-- What questions 1 to 5 come to.
-- Assumes nothing.
use Rattle.std.specs.Prelude.{List, ℕ, Result, Ok, Err}
use Rattle.std.proofs.Math.Option.{Option, none, some}
use Rattle.model.specs.Sheet.{sheet_refusal}
use Rattle.model.specs.declared.Question.{Question}
use Rattle.sheet.specs.Sizes.{sizes_of}
use Rattle.sheet.specs.declared.Sizes.{Sizes}
use Rattle.sheet_fields.specs.declared.Sheet.{Sheet}

-- the sizes of a sheet that no question refuses, or the first that does
unfoldable pub check_of : Sizes → Option Question → Result Sizes Question
check_of sizes none = Ok sizes
check_of sizes (some question) = Err question

-- of a sheet
unfoldable pub sheet_check : List ℕ → Result Sizes Question
sheet_check sheet = check_of (sizes_of sheet) (sheet_refusal sheet)

-- an answer, where a sheet is told by its sizes
unfoldable pub sized : Result Sheet Question → Result Sizes Question
sized (Ok sheet) = Ok sheet.sizes
sized (Err question) = Err question
