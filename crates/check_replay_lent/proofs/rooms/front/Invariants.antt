-- `check_replay_lent::rooms::front` meets its contract: so many places are written from the front on.
-- Assumes nothing.
use Rattle.std.proofs.Common.{◌≡◌, ◌≤◌, ◌+◌, ◌%◌, length}
use Rattle.memory.specs.Front.{front}
use Rattle.check_replay_lent.proofs.rooms.front.Given as goal

abbrev pub invariant-loop-i : goal.invariant-loop-i
invariant-loop-i g l =
    (l.i ≤ l.end) × (length l.room ≡ length l.initial.room)
    × (l.room ≡ front (λ i. g.T.Element.repeated (i % 128 + 1)) l.i l.initial.room)
