-- `facts::put_slot_fact` meets its contract. Assumes nothing.
use mathlib.Core.Path.{ap}
use mathlib.Core.List.{[], ◌∷◌}
use native.Mathlib.Omega.{arith}
use borrow.Author.Tests.{lt-leb, le-leb}
use lib.ListN.{length}
use lib.Seq.{sets-eq}
use Rattle.model.specs.Interface.{looked, looked_up, interface_compute}
use Rattle.export_numbers.proofs.facts.put_slot_fact.Goals as goal

pub returns-then-out-lt2 : goal.returns-then-out-lt2
unfolding looked_up
returns-then-out-lt2 c = rw (lt-leb 2 (length c.args.out.now) (omega arith))

pub returns-in_default : goal.returns-in_default
unfolding interface_compute
returns-in_default c = rw (c.in_default.is, le-leb 2 (length c.args.out.now) (omega arith))

pub returns-in_default-found : goal.returns-in_default-found
unfolding interface_compute
returns-in_default-found c = rw (c.in-Ok.is, c.in_default-found.is, le-leb 2 (length c.args.out.now) (omega arith))

pub returns : goal.returns
unfolding interface_compute
returns c =
    let a = c.in-Some in
    rw (c.in-Ok.is, a.is, le-leb 2 (length c.args.out.now) (omega arith)) (ap (looked 0) (sets-eq (a.cell.kind ∷ a.cell.value ∷ []) c.args.out.now 0 (omega arith)))
