-- `sheet_questions::limits::places_of` meets its contract. Assumes nothing.
use Rattle.sheet_questions.proofs.ArrayPlaces.{placed_is}
use Rattle.sheet_questions.proofs.limits.places_of.Goals as goal

pub returns : goal.returns
returns c =
    placed_is _ c.size_at-n.ensures.0 c.size_at-w.ensures.0
    c.size_at-k.ensures.0 c.size_at-p.ensures.0 c.size_at-y.ensures.0
