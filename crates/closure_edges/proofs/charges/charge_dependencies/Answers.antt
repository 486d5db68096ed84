-- `closure_edges::charges::charge_dependencies` meets its contract: so far all charges were covered.
-- Assumes nothing.
use mathlib.Core.Path.{refl, ◌∙◌}
use Rattle.std.proofs.lemmas.Result.{err_from_is_err_and}
use Rattle.model.specs.Dependencies.{charge_dependencies}
use Rattle.budget.proofs.Outcomes.{refused_stopped}
use Rattle.budget.proofs.Spending.{charged_none, charged_more, charged_all, charged_refused, covered}
use Rattle.sheet.proofs.SizeNames.{counted}
use Rattle.closure_edges.proofs.EdgeCharges.{charges, same_charge}
use Rattle.closure_edges.proofs.charges.charge_dependencies.Goals as goal

pub loop-pc-init : goal.loop-pc-init
loop-pc-init c = charged_none _ _ _

pub returns-in_err-left : goal.returns-in_err-left
unfolding charge_dependencies charges
returns-in_err-left c =
    let p = err_from_is_err_and c.from_residual.result c.from_residual.ensures.1 in
    let sizes = counted c.args.sheet.now.measured.are in
    rw (p.1, p.2) (charged_refused (charges c.args.sheet.now.bytes.now) _ _ sizes.code_count_is c.loop-pc.invariant c.loop-pc-test.true
    (refused_stopped (c.in_err-left.ensures ∙ same_charge _ _ _ c.instruction.ensures sizes.local_slots_is) refl))

pub loop-pc-preserved : goal.loop-pc-preserved
loop-pc-preserved c =
    charged_more _ _ _ c.loop-pc.invariant c.loop-pc-test.true
    (covered (c.charge_instruction.ensures ∙ same_charge _ _ _ c.instruction.ensures (counted c.args.sheet.now.measured.are).local_slots_is) c.in_ok-left.was)

pub returns : goal.returns
unfolding charge_dependencies charges
returns c = charged_all (charges c.args.sheet.now.bytes.now) _ _ (counted c.args.sheet.now.measured.are).code_count_is c.loop-pc.invariant c.loop-pc-test.false
