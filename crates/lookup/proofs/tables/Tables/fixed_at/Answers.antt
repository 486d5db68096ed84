-- `Tables::fixed_at` meets its contract. Assumes nothing.
use mathlib.Core.Logic.{inl, inr}
use Rattle.model.specs.Lookup.{cell_found, none_found, fixed_fact}
use Rattle.lookup.proofs.LookupAnswers.{fixed_untracked, fixed_tracked}
use Rattle.lookup.proofs.tables.Tables.fixed_at.Goals as goal

pub returns-in_err-j : goal.returns-in_err-j
unfolding none_found
returns-in_err-j c = rw (c.from_residual.ensures, c.in_err-j.was) (fixed_untracked c.args.self.now)

pub returns-in-One : goal.returns-in-One
unfolding fixed_fact cell_found
returns-in-One c = rw c.in_ok-j.was (fixed_tracked c.args.self.now c.in_ok-j.j c.shown.result _ c.shown.ensures (rw c.in-One.is))

pub returns-in-Nothing : goal.returns-in-Nothing
unfolding fixed_fact none_found
returns-in-Nothing c =
    rw c.in_ok-j.was
    (elim c.in-Nothing.is [
      | inl e ↦ fixed_tracked c.args.self.now c.in_ok-j.j c.shown.result _ c.shown.ensures (rw e)
      | inr e ↦ fixed_tracked c.args.self.now c.in_ok-j.j c.shown.result _ c.shown.ensures (rw e)
    ])
