-- What is found once a call.
-- Assumes nothing.
use Rattle.std.specs.Prelude.{List, ℕ}
use Rattle.memory.specs.Front.{front}
use Rattle.model.specs.Sheet.{code_count, first_range, layout_count, layout_start}

-- the number of the first range of each instruction, in the first n places
unfoldable pub first_ranges : List ℕ → List ℕ → List ℕ
first_ranges sheet old = front (first_range sheet) (code_count sheet) old

-- where the slot kinds of each layout begin among the q, in the first y places
unfoldable pub layout_starts : List ℕ → List ℕ → List ℕ
layout_starts sheet old = front (layout_start sheet) (layout_count sheet) old
