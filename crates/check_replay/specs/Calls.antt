-- The calls of a recorded sheet, and the checksum behind each.
-- Assumes nothing.
use Rattle.std.specs.Prelude.{List, ℕ, zero, suc}
use Rattle.std.proofs.Math.Option.{Option, none, some}
use Rattle.model.specs.Call.{Result, analyzed}
use Rattle.model.specs.Interface.{twelve}
use Rattle.model.specs.declared.Answer.{Answer}
use Rattle.check_replay_lent.specs.Lent.{budget_given, lent_in}
use Rattle.check_replay_lent.specs.Checksum.{checksum_start, with_buffer, with_lent}
use Rattle.check_replay_lent.specs.declared.Checksum.{Checksum}
use Rattle.check_replay.specs.declared.call.Called.{Called}

-- what a call answered, and the checksum behind it
abbrev pub called : Answer → Checksum → Called
called answer checksum = record { answer = answer; checksum = checksum }

-- The answer of a call, and the checksum with the answer's twelve numbers and all that was lent more; none where a loop's fuel was too little.
unfoldable pub after_call : Checksum → Option Result → Option Called
after_call c none = none
after_call c (some r) = some (called r.answered (with_lent (with_buffer c (twelve r.numbered)) r.lent))

-- one call
unfoldable pub called_in : List ℕ → List ℕ → ℕ → Checksum → Option Called
called_in head sheet call c = after_call c (analyzed sheet (budget_given head) (lent_in head call))

-- the answer of the first call beside the checksum behind a later one
unfoldable pub with_first : Called → Option Called → Option Called
with_first first none = none
with_first first (some later) = some (called first.answer later.checksum)

-- a call more
unfoldable pub called_again : List ℕ → List ℕ → ℕ → Option Called → Option Called
called_again head sheet call none = none
called_again head sheet call (some done) = with_first done (called_in head sheet call done.checksum)

-- the first call, and so many more
unfoldable pub replayed : List ℕ → List ℕ → ℕ → Option Called
replayed head sheet zero = called_in head sheet 0 checksum_start
replayed head sheet (suc more) = called_again head sheet (suc more) (replayed head sheet more)
