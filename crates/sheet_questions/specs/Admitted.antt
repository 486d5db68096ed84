-- What questions 1 to 6 come to.
-- Assumes nothing.
use Rattle.std.specs.Prelude.{Bool, true, false, ◌&&◌, List, ℕ, leb, Result, Ok, Err}
use Rattle.model.specs.declared.Question.{Question}
use Rattle.model.specs.declared.Question.TheVariants.{ClosureRoom}
use Rattle.sheet.specs.declared.Sizes.{Sizes}
use Rattle.sheet_questions.specs.Check.{sheet_check}

-- "6. Have the marks and the closure's stack at least L entries each?"
unfoldable pub admitted_if : Bool → Sizes → Result Sizes Question
admitted_if true sizes = Ok sizes
admitted_if false sizes = Err ClosureRoom

-- question 6, or the first of 1 to 5 that refuses; by the lengths of marks and stack
unfoldable pub asked_last : Result Sizes Question → ℕ → ℕ → Result Sizes Question
asked_last (Ok sizes) marks stack = admitted_if (leb sizes.local_slots marks && leb sizes.local_slots stack) sizes
asked_last (Err question) marks stack = Err question

-- of a sheet
unfoldable pub admission : List ℕ → ℕ → ℕ → Result Sizes Question
admission sheet marks stack = asked_last (sheet_check sheet) marks stack
