-- `stage_entry::layouts::charge_instruction_facts` meets its contract: so far all charges were covered. Assumes nothing.
use mathlib.Core.Path.{◌≡◌, ap, ◌∙◌}
use Rattle.model.specs.Transfer.{instruction_fact}
use Rattle.model.specs.Parameters.{charge_fact, charge_instruction_facts}
use Rattle.model.specs.declared.Instruction.{Instruction}
use Rattle.budget.specs.Outcome.{as_spent}
use Rattle.budget.proofs.Outcomes.{spent_stopped}
use Rattle.budget.proofs.Spending.{charged_none, charged_more, charged_all, charged_refused, covered}
use Rattle.sheet.proofs.SizeNames.{counted}
use Rattle.stage_entry.proofs.Refusals.{refused_not_covered, refused_again}
use Rattle.stage_entry.proofs.LayoutCharges.{fact_charged}
use Rattle.stage_entry.proofs.layouts.charge_instruction_facts.Goals as goal

pub loop-pc-init : goal.loop-pc-init
loop-pc-init c = charged_none _ _ _

pub instruction_fact-requires : goal.instruction_fact-requires
instruction_fact-requires c = (c.loop-pc-test.true, ap (λ (i : Instruction). i.op) c.instruction-op.ensures)

pub returns-in_err-left : goal.returns-in_err-left
unfolding charge_instruction_facts
returns-in_err-left c =
    ap as_spent (refused_again c.from_residual.result c.in_err-left.was c.from_residual.ensures.1)
    ∙ charged_refused _ _ _ (counted c.args.sheet.now.measured.are).code_count_is c.loop-pc.invariant c.loop-pc-test.true
    (spent_stopped c.charge_layouts.result (let came : as_spent c.charge_layouts.result
    ≡ (let sheet = c.args.sheet.now.bytes.now in charge_fact sheet (instruction_fact sheet c.loop-pc.pc) c.loop-pc.left) = c.charge_layouts.ensures ∙ fact_charged _ _ c.instruction_fact.ensures _ in came) (refused_not_covered c.in_err-left.was))

pub loop-pc-preserved : goal.loop-pc-preserved
loop-pc-preserved c =
    charged_more _ _ _ c.loop-pc.invariant c.loop-pc-test.true (covered (let came : as_spent c.charge_layouts.result
    ≡ (let sheet = c.args.sheet.now.bytes.now in charge_fact sheet (instruction_fact sheet c.loop-pc.pc) c.loop-pc.left) = c.charge_layouts.ensures ∙ fact_charged _ _ c.instruction_fact.ensures _ in came) c.in_ok-left.was)

pub returns : goal.returns
unfolding charge_instruction_facts
returns c = charged_all _ _ _ (counted c.args.sheet.now.measured.are).code_count_is c.loop-pc.invariant c.loop-pc-test.false
