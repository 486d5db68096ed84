-- `ascending` meets its contract. Assumes nothing.
use Rattle.std.proofs.Common.{rules}
use Rattle.std.proofs.lemmas.Fn.{always_returns_same}
use lib.Dec.{ltb}
use Rattle.lookup.proofs.AscendingLoop.{neighbours_ascend}
use Rattle.lookup.proofs.tables.question.ascending.Goals as goal

pub returns : goal.returns
returns c =
    neighbours_ascend c.args.slots.now c.is_sorted_by.result (c.is_sorted_by.ensures.cases ltb (always_returns_same _ _ _ (λ a r f k. search rules)))
