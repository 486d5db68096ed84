-- A checksum over numbers, lists of them, and all that is lent to a call.
-- Assumes nothing.
use Rattle.std.specs.Prelude.{List, [], ◌∷◌, ℕ, ◌+◌, ◌*◌, ◌%◌, length}
use Rattle.model.specs.Call.{Table, Scratch, Lent, scratch}
use Rattle.check_replay_lent.specs.declared.Checksum.{Checksum}

-- before the first number
abbrev pub checksum_start : Checksum
checksum_start = record { low = 1; high = 1 }

-- With a number more: two polynomials over all numbers so far, each modulo a prime below 2^32.
abbrev pub with_number : Checksum → ℕ → Checksum
with_number c x = record { low = (c.low * 1103515245 + x) % 4294967291; high = (c.high * 1812433253 + x) % 4294967279 }

-- with the numbers of a list more
unfoldable pub with_numbers : Checksum → List ℕ → Checksum
with_numbers c [] = c
with_numbers c (x ∷ xs) = with_numbers (with_number c x) xs

-- with a buffer more: its length, and every element
unfoldable pub with_buffer : Checksum → List ℕ → Checksum
with_buffer c xs = with_numbers (with_number c (length xs)) xs

-- with the four buffers of an analysis more
unfoldable pub with_table : Checksum → Table → Checksum
with_table c t = with_buffer (with_buffer (with_buffer (with_buffer c t.slots) t.present) t.kinds) t.values

-- with the five of the scratch more
unfoldable pub with_scratch : Checksum → Scratch → Checksum
with_scratch c w = with_buffer (with_buffer (with_buffer (with_buffer (with_buffer c w.marks) w.stack) w.row_kinds) w.row_values) w.work_list

-- with all that is lent more, in the order of the call's parameters
unfoldable pub with_lent : Checksum → Lent → Checksum
with_lent c l =
    with_scratch (with_table (with_table (with_table c l.constants) l.index) l.containers)
    (scratch l.marks l.stack l.row_kinds l.row_values l.work_list)

-- as one number
abbrev pub checksum_number : Checksum → ℕ
checksum_number c = c.low + 4294967296 * c.high
