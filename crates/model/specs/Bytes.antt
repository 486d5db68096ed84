-- Little-endian numbers in a list of bytes. Words in double quotes are document 01's, here and in all these files; those of demand 3 stand between ‘ and ’.
-- Assumes nothing.
use Rattle.std.specs.Prelude.{List, ℕ, ◌+◌, ◌*◌, get_or}

-- The byte at i. From the sheet's end up it reads 0, which decides nothing: question 1 is asked before the sizes are used, and question 3
-- before any array is, so what lies past the end is read by no answer that is given.
unfoldable pub byte : List ℕ → ℕ → ℕ
byte bytes i = get_or bytes i 0

-- "Numbers are unsigned and little-endian unless called signed.": 16 bits at i
unfoldable pub u16 : List ℕ → ℕ → ℕ
u16 bytes i = byte bytes i + 256 * byte bytes (i + 1)

-- 32 bits at i
unfoldable pub u32 : List ℕ → ℕ → ℕ
u32 bytes i = u16 bytes i + 65536 * u16 bytes (i + 2)

-- 64 bits at i
unfoldable pub u64 : List ℕ → ℕ → ℕ
u64 bytes i = u32 bytes i + 4294967296 * u32 bytes (i + 4)

-- `unfolding bytes_compute` unfolds all of this file.
unfoldable pub bytes_compute : Unit {0}
unfolding byte u16 u32 u64
bytes_compute = tt
