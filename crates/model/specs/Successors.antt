-- "Successors": the flow graph, under the names of `FunctionCfg::build`.
-- Assumes nothing.
use Rattle.std.specs.Prelude.{Bool, true, false, cond, List, [], ◌∷◌, ◌++◌, ℕ, suc, ◌+◌, ◌*◌, ◌-◌, ◌^◌, ltb, eqb, ℤ, pos, negsuc, ◌+ℤ◌, length, replicate}
use Rattle.model.specs.Sheet.{code_count, instruction, sheet_compute}
use Rattle.model.specs.Opcode.{Jump, JumpIf, JumpIfNot, ForLoop, Return, Panic, select, opcode_compute}
use Rattle.model.specs.declared.Instruction.{Instruction}
use Rattle.model.specs.declared.InstructionSuccessors.{InstructionSuccessors}

-- "read as signed": the number that the `bits` low bits v stand for
unfoldable pub signed : ℕ → ℕ → ℤ
signed bits v = cond (ltb v (2 ^ (bits - 1))) (pos v) (negsuc (2 ^ bits - suc v))

-- "imm32 is b + 65,536 × c read as signed 32-bit."
unfoldable pub imm32 : Instruction → ℤ
imm32 inst = signed 32 (inst.b + 65536 * inst.c)

-- "Jump goes to pc + imm32"
unfoldable pub jump_target : ℕ → Instruction → ℤ
jump_target pc inst = pos pc +ℤ imm32 inst

-- "ForLoop .. goes to pc + 1 + c, with c signed."
unfoldable pub for_loop_target : ℕ → Instruction → ℤ
for_loop_target pc inst = pos (pc + 1) +ℤ signed 16 inst.c

-- The ways in which an instruction goes on.
pub data Branch : Type 0 where
  fall_through jump conditional for_loop leave : Branch

-- "Jump", "JumpIf and JumpIfNot", "ForLoop"; "Return and Panic have none"; "others only fall through"
unfoldable pub branch : ℕ → Branch
branch op = select op
    ((Jump, jump) ∷ (JumpIf, conditional) ∷ (JumpIfNot, conditional) ∷ (ForLoop, for_loop) ∷ (Return, leave) ∷ (Panic, leave) ∷ [])
    fall_through

-- whether pc is among the targets
unfoldable pub contains : List ℕ → ℕ → Bool
contains [] pc = false
contains (target ∷ targets) pc = cond (eqb pc target) true (contains targets pc)

-- "an equal second one too" is dropped: `InstructionSuccessors::push`
unfoldable pub push : List ℕ → ℕ → List ℕ
push targets pc = cond (contains targets pc) targets (targets ++ (pc ∷ []))

-- "Targets outside 0..n−1 are dropped": `push_valid_successor`
unfoldable pub push_valid : ℕ → List ℕ → ℤ → List ℕ
push_valid n targets (pos target) = cond (ltb target n) (push targets target) targets
push_valid n targets (negsuc k) = targets

-- "fall through": `push_fallthrough_successor`
unfoldable pub push_fallthrough : ℕ → ℕ → List ℕ → List ℕ
push_fallthrough n pc targets = push_valid n targets (pos (pc + 1))

-- The successors in order: "JumpIf and JumpIfNot fall through first, then go there; ForLoop falls through, then goes to pc + 1 + c".
unfoldable pub branch_successors : Branch → ℕ → ℕ → Instruction → List ℕ
branch_successors fall_through n pc inst = push_fallthrough n pc []
branch_successors jump n pc inst = push_valid n [] (jump_target pc inst)
branch_successors conditional n pc inst = push_valid n (push_fallthrough n pc []) (jump_target pc inst)
branch_successors for_loop n pc inst = push_valid n (push_fallthrough n pc []) (for_loop_target pc inst)
branch_successors leave n pc inst = []

-- the successors of instruction pc of n
unfoldable pub successors : ℕ → ℕ → Instruction → List ℕ
successors n pc inst = branch_successors (branch inst.op) n pc inst

-- the successors of the sheet's instruction pc
unfoldable pub sheet_successors : List ℕ → ℕ → List ℕ
sheet_successors sheet pc = successors (code_count sheet) pc (instruction sheet pc)

-- "`InstructionSuccessors` stays a record with an array of two": the targets, and zeros after them
unfoldable pub as_record : List ℕ → InstructionSuccessors
as_record targets = record { pcs = targets ++ replicate (2 - length targets) 0; len = length targets }

unfoldable pub successors_compute : Unit {0}
unfolding sheet_compute opcode_compute
    signed imm32 jump_target for_loop_target branch contains push push_valid push_fallthrough branch_successors successors sheet_successors as_record
successors_compute = tt
