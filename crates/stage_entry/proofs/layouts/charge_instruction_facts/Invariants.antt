-- `stage_entry::layouts::charge_instruction_facts` meets its contract: so far all charges were covered. Assumes nothing.
use Rattle.model.specs.Transfer.{instruction_fact}
use Rattle.model.specs.Parameters.{charge_fact}
use Rattle.budget.proofs.Spending.{Charged}
use Rattle.stage_entry.proofs.layouts.charge_instruction_facts.Given as goal

abbrev pub invariant-loop-pc : goal.invariant-loop-pc
invariant-loop-pc l = Charged (λ i. charge_fact l.sheet.bytes.now (instruction_fact l.sheet.bytes.now i)) l.n l.initial.left l.left l.pc
