-- What the head of a recorded sheet gives to a call: the budget, and every buffer, as long as the call lends it and filled with a pattern.
-- Assumes nothing.
use Rattle.std.specs.Prelude.{List, ℕ, ◌+◌, ◌*◌, ◌%◌, replicate}
use Rattle.memory.specs.Front.{front}
use Rattle.model.specs.Bytes.{u64}
use Rattle.model.specs.Call.{Table, Scratch, Lent, table, scratch, lent}
use Rattle.model.specs.declared.VerifierResources.{VerifierResources}
use Rattle.check_replay_lent.specs.Lengths.{lent_length}

-- the budget
abbrev pub budget_given : List ℕ → VerifierResources
budget_given head = record { bytes = u64 head 4; work = u64 head 12 }

-- ---- the pattern: no byte is zero, and neighbouring elements differ

-- a byte from 1 to 128, by the place, as often as the factor says: 1, 257 or 72340172838076673, for elements of one, two or eight bytes
abbrev pub pattern_at : ℕ → ℕ → ℕ
pattern_at factor i = (i % 128 + 1) * factor

-- so many elements
unfoldable pub pattern : ℕ → ℕ → List ℕ
pattern factor count = front (pattern_at factor) count (replicate count 0)

-- ---- the buffers

-- a buffer of bytes, by its place among the parameters
abbrev pub bytes_in : List ℕ → ℕ → ℕ → ℕ → List ℕ
bytes_in head call which room = pattern 1 (lent_length head call which room)

-- one of 16-bit numbers
abbrev pub pairs_in : List ℕ → ℕ → ℕ → ℕ → List ℕ
pairs_in head call which room = pattern 257 (lent_length head call which room)

-- one of 64-bit numbers
abbrev pub words_in : List ℕ → ℕ → ℕ → ℕ → List ℕ
words_in head call which room = pattern 72340172838076673 (lent_length head call which room)

-- the four buffers of an analysis, from that of the slots on, each in as much room as there is
unfoldable pub table_in : List ℕ → ℕ → ℕ → Table
table_in head call first = table (pairs_in head call first 128) (bytes_in head call (first + 1) 512) (bytes_in head call (first + 2) 8192) (words_in head call (first + 3) 8192)

-- the five of the scratch
unfoldable pub scratch_in : List ℕ → ℕ → Scratch
scratch_in head call =
    scratch (bytes_in head call 12 65600) (pairs_in head call 13 65600) (bytes_in head call 14 128) (words_in head call 15 128) (pairs_in head call 16 16384)

-- all that is lent
unfoldable pub lent_in : List ℕ → ℕ → Lent
lent_in head call = lent (table_in head call 0) (table_in head call 4) (table_in head call 8) (scratch_in head call)
