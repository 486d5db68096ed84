-- `last_kind` meets its contract. Assumes nothing.
use Rattle.model.specs.Lookup.{last_kind}
use Rattle.lookup.proofs.tables.last_kind.Goals as goal

pub returns-in-Constant : goal.returns-in-Constant
unfolding last_kind
returns-in-Constant c = rw c.in-Constant.is

pub returns-in-IndexCheck : goal.returns-in-IndexCheck
unfolding last_kind
returns-in-IndexCheck c = rw c.in-IndexCheck.is

pub returns-in-Container : goal.returns-in-Container
unfolding last_kind
returns-in-Container c = rw c.in-Container.is
