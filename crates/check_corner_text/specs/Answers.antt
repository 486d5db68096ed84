-- The line that answers a question.
-- Assumes nothing.
use Rattle.std.specs.Prelude.{List, [], ℕ, Result, Ok, Err}
use Rattle.model.specs.Sheet.{code_count, instruction}
use Rattle.model.specs.Successors.{successors, as_record}
use Rattle.model.specs.Written.{written, index_written}
use Rattle.model.specs.Tables.{fact_in}
use Rattle.check_corner_text.specs.Lines.{successors_line, writes_line, index_writes_line}
use Rattle.check_corner_text.specs.declared.Question.{Question}
use Rattle.check_corner_text.specs.declared.Asked.{Asked}
use Rattle.check_corner_text.specs.declared.Asked.TheVariants.{Successors, Writes, IndexWrites}
use Rattle.check_corner_text.specs.declared.UnknownAsked.{UnknownAsked}

-- by what is asked; no line where it is unknown
unfoldable pub answer_by : Result Asked UnknownAsked → List ℕ → Question → List ℕ
answer_by (Ok Successors) sheet q = successors_line q.pc (as_record (successors (code_count sheet) q.pc (instruction sheet q.pc)))
answer_by (Ok Writes) sheet q = writes_line q.pc q.slot (written sheet q.pc q.slot)
answer_by (Ok IndexWrites) sheet q = index_writes_line q.pc q.before q.slot (index_written sheet q.pc (fact_in q.before) q.slot)
answer_by (Err unknown) sheet q = []

unfoldable pub answer_line : List ℕ → Question → List ℕ
answer_line sheet q = answer_by q.asks sheet q
