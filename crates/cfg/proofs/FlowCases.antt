-- The successors, by the way in which the instruction goes on.
-- Assumes nothing.
use mathlib.Core.Path.{◌≡◌, refl, sym, ap, ◌∙◌}
use mathlib.Core.Bool.{Bool, true, false}
use mathlib.Core.Logic.{◌≢◌, ◌⊎◌, inl, inr}
use mathlib.Core.List.{List, []}
use Prim.Native.Nat.{ℕ, ◌+◌, ◌^◌, ◌≤◌, ◌<◌}
use native.Mathlib.Omega.{arith}
use borrow.Author.Tests.{eqb-true, eqb-false, ne_eqb}
use lib.Dec.{eqb, ltb}
use lib.IntN.{ℤ, pos, ◌+ℤ◌}
use lib.Signed.{mag}
use mir.Syntax.{Width, w64}
use mir.Val.{to_z, of_z, hbits}
use mir.ValLaws.{to_z-of_z}
use Rattle.model.specs.Opcode.{select}
use Rattle.model.specs.Successors.{signed, imm32, jump_target, for_loop_target, Branch, fall_through, jump, conditional, for_loop, leave, branch, contains, push, push_valid, push_fallthrough, branch_successors, successors, as_record}
use Rattle.model.specs.declared.Instruction.{Instruction}
use Rattle.model.specs.declared.InstructionSuccessors.{InstructionSuccessors}

-- what falls through has one successor at most, so that another has room
pub second_fits : (n pc : ℕ) (s : InstructionSuccessors) → s ≡ as_record (push_fallthrough n pc []) → s.len < 2
unfolding push_fallthrough push_valid push contains as_record
second_fits n pc s e = go (ltb (pc + 1) n) refl
  where
    go : (b : Bool) → ltb (pc + 1) n ≡ b → s.len < 2
    go true q = omega (arith, rw q at (ap (λ (x : InstructionSuccessors). x.len) e))
    go false q = omega (arith, rw q at (ap (λ (x : InstructionSuccessors). x.len) e))

-- ---- the way of an opcode, by the arms of the code

pub at_jump : (op : ℕ) → op ≡ 57 → branch op ≡ jump
unfolding branch select
at_jump op e = ap branch e

pub at_condition : (op : ℕ) → 58 ≤ op → op ≤ 59 → branch op ≡ conditional
unfolding branch select
at_condition op low high = go (eqb op 58) refl
  where
    go : (b : Bool) → eqb op 58 ≡ b → branch op ≡ conditional
    go true q = ap branch (eqb-true op 58 q)
    go false q = let e : op ≡ 59 = omega (arith, eqb-false op 58 q) in ap branch e

pub at_loop : (op : ℕ) → op ≡ 124 → branch op ≡ for_loop
unfolding branch select
at_loop op e = ap branch e

pub at_end : (op : ℕ) → op ≡ 64 ⊎ op ≡ 111 → branch op ≡ leave
unfolding branch select
at_end op (inl e) = ap branch e
at_end op (inr e) = ap branch e

pub at_other : (op : ℕ) → op ≢ 57 → op ≢ 58 → op ≢ 59 → op ≢ 124 → op ≢ 64 → op ≢ 111 → branch op ≡ fall_through
unfolding branch select
at_other op a b c d e f = rw (ne_eqb op 57 a, ne_eqb op 58 b, ne_eqb op 59 c, ne_eqb op 124 d, ne_eqb op 64 e, ne_eqb op 111 f)

-- ---- what the code does in each

module _ (n pc : ℕ) (inst : Instruction) (r : InstructionSuccessors) where
  by : (b : Branch) → branch inst.op ≡ b → r ≡ as_record (branch_successors b n pc inst) → r ≡ as_record (successors n pc inst)
  unfolding successors
  by b e h = h ∙ ap (λ (b : Branch). as_record (branch_successors b n pc inst)) (sym e)

  pub falls : branch inst.op ≡ fall_through → r ≡ as_record (push_fallthrough n pc []) → r ≡ as_record (successors n pc inst)
  unfolding branch_successors
  falls e h = by fall_through e h

  pub leaves_none : branch inst.op ≡ leave → r ≡ as_record [] → r ≡ as_record (successors n pc inst)
  unfolding branch_successors
  leaves_none e h = by leave e h

  -- An offset and a target go from call to call as bits.
  module _ (w : Width) (offset target : ℤ) (fo : mag offset < 2 ^ hbits w) (ft : mag target < 2 ^ hbits w64) (targets : List ℕ)
      (h : r ≡ as_record (push_valid n targets (to_z w64 (of_z w64 target)))) where
    to : (from : ℕ) (o : ℤ) → offset ≡ o → target ≡ pos from +ℤ to_z w (of_z w offset) → r ≡ as_record (push_valid n targets (pos from +ℤ o))
    to from o e t = rw (to_z-of_z w64 target record { sfits = ft }, t, to_z-of_z w offset record { sfits = fo }, e) at h

    pub jumps : branch inst.op ≡ jump → targets ≡ [] → offset ≡ imm32 inst → target ≡ pos pc +ℤ to_z w (of_z w offset) → r ≡ as_record (successors n pc inst)
    unfolding branch_successors jump_target
    jumps e k o t = by jump e (rw k at (to pc (imm32 inst) o t))

    pub branches : branch inst.op ≡ conditional → targets ≡ push_fallthrough n pc [] → offset ≡ imm32 inst → target ≡ pos pc +ℤ to_z w (of_z w offset)
        → r ≡ as_record (successors n pc inst)
    unfolding branch_successors jump_target
    branches e k o t = by conditional e (rw k at (to pc (imm32 inst) o t))

    pub loops : branch inst.op ≡ for_loop → targets ≡ push_fallthrough n pc [] → offset ≡ signed 16 inst.c → target ≡ pos (pc + 1) +ℤ to_z w (of_z w offset)
        → r ≡ as_record (successors n pc inst)
    unfolding branch_successors for_loop_target
    loops e k o t = by for_loop e (rw k at (to (pc + 1) (signed 16 inst.c) o t))
