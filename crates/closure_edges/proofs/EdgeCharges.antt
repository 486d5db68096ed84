-- What the charges of an instruction are, and those of the flow graph.
-- Assumes nothing.
use mathlib.Core.Path.{◌≡◌, refl}
use mathlib.Core.List.{List}
use Prim.Native.Nat.{ℕ}
use Rattle.model.specs.Sheet.{local_slots, instruction}
use Rattle.std.specs.Prelude.{Err}
use Rattle.model.specs.Charges.{Metered, ◌>>◌}
use Rattle.model.specs.Dependencies.{charge_instruction}
use Rattle.model.specs.Analyses.{flow_of, charge_flow}
use Rattle.model.specs.declared.Instruction.{Instruction}
use Rattle.model.specs.declared.VerifierResources.{VerifierResources}
use Rattle.budget.specs.Outcome.{Outcome, as_spent}
use Rattle.budget.specs.declared.Refused.{Refused}
use Rattle.budget.proofs.Outcomes.{stopped_then, stopped_spent, refused_stopped}
use Rattle.sheet.specs.Measured.{Measured}
use Rattle.sheet.specs.declared.Sizes.{Sizes}
use Rattle.sheet.proofs.SizeNames.{counted}

-- the charges of the instruction at pc
unfoldable pub charges : List ℕ → ℕ → Metered (Unit {0})
charges sheet pc = charge_instruction (local_slots sheet) (instruction sheet pc)

pub same_charge : (sheet : List ℕ) (pc : ℕ) {l : ℕ} {inst : Instruction} (left : VerifierResources) → inst ≡ instruction sheet pc → l ≡ local_slots sheet
    → charge_instruction l inst left ≡ charges sheet pc left
unfolding charges
same_charge sheet pc left p q = rw (p, q)

-- the flow graph's charges of a sheet, by its counted n
pub flow_counted : (sheet : List ℕ) (budget : VerifierResources) {sizes : Sizes} (flow : Outcome) → as_spent flow ≡ flow_of sizes.code_count budget → Measured sheet sizes
    → as_spent flow ≡ charge_flow sheet budget
unfolding charge_flow
flow_counted sheet budget flow e m = rw (counted m.are).code_count_is at e

-- ---- a refusal that `?` passes on

-- is that of the part and of all that follows it
pub passed_on : (part next : Metered (Unit {0})) (budget : VerifierResources) (refused : Refused) → as_spent (Err refused) ≡ part budget → as_spent (Err refused) ≡ (part >> next) budget
unfolding ◌>>◌
passed_on part next budget refused came = stopped_spent (stopped_then (refused_stopped came refl) (λ _. next))
