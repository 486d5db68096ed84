-- `transfer_facts::constant_fact_written_to_slot` meets its contract: each opcode takes its rule, and of any other every test fails. Assumes nothing.
use Rattle.std.proofs.Common.{rules, eqb}
use Rattle.model.specs.Opcode.{select}
use Rattle.model.specs.Transfer.{shl, or, fold, constant_rule, constant_fact}
use Rattle.fact_row.proofs.TargetCell.{targeted}
use Rattle.transfer_facts.proofs.constants.constant_fact_written_to_slot.Goals as goal

pub returns-in-53 : goal.returns-in-53
unfolding constant_rule select constant_fact fold
returns-in-53 c slot =
    rw c.in-53.is (targeted (eqb c.args.inst.a slot) _ (c.fold_u64_constant_binary.ensures shl (λ x y r p. search rules)))

pub returns-in-49 : goal.returns-in-49
unfolding constant_rule select constant_fact fold
returns-in-49 c slot =
    rw c.in-49.is (targeted (eqb c.args.inst.a slot) _ (c.fold_u64_constant_binary-in-49.ensures or (λ x y r p. search rules)))
