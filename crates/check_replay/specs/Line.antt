-- The line of a recorded sheet.
-- Assumes nothing.
use Rattle.std.specs.Prelude.{List, [], ◌∷◌, ◌++◌, ℕ}
use Rattle.std.proofs.Math.Option.{Option, none, some}
use Rattle.model.specs.Call.{answer_numbered}
use Rattle.model.specs.Interface.{twelve}
use Rattle.model.specs.Listing.{ascii, newline}
use Rattle.text_lines.specs.Text.{numbered}
use Rattle.check_replay_lent.specs.Checksum.{checksum_number}
use Rattle.check_replay.specs.Calls.{replayed}
use Rattle.check_replay.specs.declared.call.Called.{Called}

-- the twelve numbers of the first call's answer, and the checksum over all calls
unfoldable pub called_line : Called → List ℕ
called_line c = numbered (ascii "answer") (twelve (answer_numbered c.answer)) ++ numbered (ascii " checksum") (checksum_number c.checksum ∷ []) ++ newline

-- the same, where there is one
unfoldable pub line_of : Option Called → Option (List ℕ)
line_of none = none
line_of (some c) = some (called_line c)

-- of a recorded sheet: the first call, and 18 more
unfoldable pub replay_line : List ℕ → List ℕ → Option (List ℕ)
replay_line head sheet = line_of (replayed head sheet 18)
