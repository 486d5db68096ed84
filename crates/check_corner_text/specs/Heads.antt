-- What a case is made of.
-- Assumes nothing.
use Rattle.std.specs.Prelude.{List, [], ◌∷◌, ℕ, Result, Ok, Err}
use Rattle.model.specs.Bytes.{byte, u16, u32, u64}
use Rattle.model.specs.Opcode.{select}
use Rattle.check_corner_text.specs.declared.Head.{Head}
use Rattle.check_corner_text.specs.declared.Question.{Question}
use Rattle.check_corner_text.specs.declared.Asked.{Asked}
use Rattle.check_corner_text.specs.declared.Asked.TheVariants.{Successors, Writes, IndexWrites}
use Rattle.check_corner_text.specs.declared.UnknownAsked.{UnknownAsked}

-- what a number asks: 1 the successors, 2 a slot's writing, 3 the same in the index analysis
unfoldable pub asked_of : ℕ → Result Asked UnknownAsked
asked_of number = select number ((1, Ok Successors) ∷ (2, Ok Writes) ∷ (3, Ok IndexWrites) ∷ []) (Err (record { number = number }))

-- what comes first in a case, in 8 bytes
unfoldable pub head_of : List ℕ → Head
head_of b = record { name = byte b 0; questions = u16 b 2; sheet = u32 b 4 }

-- a question, in 16 bytes
unfoldable pub question_of : List ℕ → Question
question_of b = record { asks = asked_of (byte b 0); pc = u16 b 2; slot = u16 b 4; before = record { kind = byte b 1; value = u64 b 8 } }
