-- `vo_facts_is_reachable` meets its contract. Assumes nothing.
use mathlib.Core.Path.{ap, ◌∙◌}
use Rattle.model.specs.Lookup.{Reachability, WithNumbers}
use Rattle.model.specs.Interface.{reached_number}
use Rattle.export.proofs.vo_facts_is_reachable.Goals as goal

pub returns : goal.returns
returns c = c.reached.ensures ∙ ap (λ (a : WithNumbers Reachability). reached_number a.answered) c.is_reachable.ensures
