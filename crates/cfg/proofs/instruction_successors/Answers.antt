-- `cfg::instruction_successors` meets its contract: a law for each way in which an instruction goes on.
-- Assumes nothing.
use mathlib.Core.Path.{refl}
use mathlib.Core.List.{[]}
use native.Mathlib.Omega.{arith}
use mir.Syntax.{w32}
use Rattle.model.specs.Successors.{push_fallthrough, as_record}
use Rattle.cfg.proofs.FlowCases.{second_fits, at_jump, at_condition, at_loop, at_end, at_other, falls, leaves_none, jumps, branches, loops}
use Rattle.cfg.proofs.instruction_successors.Goals as goal

pub push_valid_successor-requires-in-58 : goal.push_valid_successor-requires-in-58
unfolding as_record
push_valid_successor-requires-in-58 c =
    second_fits c.args.n c.args.pc c.push_fallthrough_successor-next.result (c.push_fallthrough_successor-next.ensures [] refl)

pub push_valid_successor-requires-in-124 : goal.push_valid_successor-requires-in-124
unfolding as_record
push_valid_successor-requires-in-124 c =
    second_fits c.args.n c.args.pc c.push_fallthrough_successor-next.result (c.push_fallthrough_successor-next.ensures [] refl)

pub returns-in-57 : goal.returns-in-57
unfolding as_record
returns-in-57 c =
    jumps c.args.n c.args.pc c.args.inst c.push_valid_successor.result w32 c.imm32.result c.target_i64.result
    c.imm32.type_inv c.target_i64.type_inv [] (c.push_valid_successor.ensures [] refl) (at_jump c.args.inst.op c.in-57.is) refl
    c.imm32.ensures c.target_i64.ensures

pub returns-in-58 : goal.returns-in-58
unfolding as_record
returns-in-58 c =
    let targets = push_fallthrough c.args.n c.args.pc [] in
    branches c.args.n c.args.pc c.args.inst c.push_valid_successor-in-58.result w32 c.imm32-in-58.result c.target_i64-in-58.result
    c.imm32-in-58.type_inv c.target_i64-in-58.type_inv targets
    (c.push_valid_successor-in-58.ensures targets (c.push_fallthrough_successor-next.ensures [] refl))
    (at_condition c.args.inst.op (omega arith) (omega arith)) refl
    c.imm32-in-58.ensures c.target_i64-in-58.ensures

pub returns-in-124 : goal.returns-in-124
unfolding as_record
returns-in-124 c =
    let targets = push_fallthrough c.args.n c.args.pc [] in
    loops c.args.n c.args.pc c.args.inst c.push_valid_successor-in-124.result w32 c.signed_c.result c.target_i64-in-124.result
    c.signed_c.type_inv c.target_i64-in-124.type_inv targets
    (c.push_valid_successor-in-124.ensures targets (c.push_fallthrough_successor-next.ensures [] refl))
    (at_loop c.args.inst.op c.in-124.is) refl c.signed_c.ensures c.target_i64-in-124.ensures

pub returns-in-64 : goal.returns-in-64
unfolding as_record
returns-in-64 c = leaves_none c.args.n c.args.pc c.args.inst (as_record []) (at_end c.args.inst.op c.in-64.is) refl

pub returns-in_default : goal.returns-in_default
unfolding as_record
returns-in_default c =
    falls c.args.n c.args.pc c.args.inst c.push_fallthrough_successor-next.result
    (at_other c.args.inst.op (λ e. omega arith) (λ e. omega arith) (λ e. omega arith) (λ e. omega arith) (λ e. omega arith) (λ e. omega arith))
    (c.push_fallthrough_successor-next.ensures [] refl)

pub returns-in_default-2 : goal.returns-in_default-2
unfolding as_record
returns-in_default-2 c =
    falls c.args.n c.args.pc c.args.inst c.push_fallthrough_successor-next.result
    (at_other c.args.inst.op (λ e. omega arith) (λ e. omega arith) (λ e. omega arith) (λ e. omega arith) (λ e. grind arith) (λ e. grind arith))
    (c.push_fallthrough_successor-next.ensures [] refl)
