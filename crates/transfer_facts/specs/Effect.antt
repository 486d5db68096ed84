-- What the slots that an instruction writes become, in each analysis.
-- Assumes nothing.
use Rattle.std.specs.Prelude.{Bool, true, false, List, ℕ, ◌+◌, ◌-◌, eqb, Option, Some, None}
use Rattle.model.specs.Fact.{Fact, Row}
use Rattle.model.specs.Opcode.{CopyN, MapIterNext}
use Rattle.model.specs.Sheet.{instruction}
use Rattle.model.specs.Tables.{cell_of}
use Rattle.model.specs.Transfer.{fact_for, constant_rule, constant_fact, index_rule, index_fact, container_rule, container_fact}
use Rattle.model.specs.Written.{in_range}
use Rattle.model.specs.declared.FactCell.{FactCell}
use Rattle.model.specs.declared.AnalysisKind.{AnalysisKind}
use Rattle.model.specs.declared.AnalysisKind.TheVariants.{Constant, IndexCheck, Container}
use Rattle.fact_row.specs.Target.{target_cell}
use Rattle.transfer_facts.specs.declared.Effect.{Effect}
use Rattle.transfer_facts.specs.declared.Effect.TheVariants.{Filled, Copied}

-- how far a slot lies from the start, where it is in the range
unfoldable pub offset_found : Bool → ℕ → Option ℕ
offset_found true offset = Some offset
offset_found false offset = None

-- the cell that a slot gets: the effect's own, or that of the slot as far from `from` as it is from the start
unfoldable pub effect_cell : Effect → List ℕ → Row → ℕ → FactCell
effect_cell (Filled start count cell) slots row slot = target_cell (in_range slot start count) cell
effect_cell (Copied start count from) slots row slot = target_cell (in_range slot start count) (cell_of (fact_for slots row (from + (slot - start))))

-- ---- the rules of `model`, by analysis

-- the fact of a slot that the instruction at pc writes
unfoldable pub fact_written : AnalysisKind → List ℕ → ℕ → List ℕ → Row → ℕ → Fact
fact_written Constant sheet pc slots row slot = constant_fact (constant_rule (instruction sheet pc).op) sheet (instruction sheet pc) slots row slot
fact_written IndexCheck sheet pc slots row slot = index_fact (index_rule (instruction sheet pc).op) (instruction sheet pc) slots row slot
fact_written Container sheet pc slots row slot = container_fact (container_rule (instruction sheet pc).op) sheet pc slots row slot

-- ---- what `effect_of` finds

-- whether it fills more than one slot: "MapIterNext covers 7 slots."
unfoldable pub iterates : AnalysisKind → ℕ → Bool
iterates Constant op = false
iterates IndexCheck op = false
iterates Container op = eqb op MapIterNext

-- CopyN's slots are copied; MapIterNext fills seven slots from b on and any other a alone, with the fact of the first of them
unfoldable pub effect_by : Bool → Bool → AnalysisKind → List ℕ → ℕ → List ℕ → Row → Effect
effect_by true seven which sheet pc slots row = Copied (instruction sheet pc).a (instruction sheet pc).c (instruction sheet pc).b
effect_by false true which sheet pc slots row = Filled (instruction sheet pc).b 7 (cell_of (fact_written which sheet pc slots row (instruction sheet pc).b))
effect_by false false which sheet pc slots row = Filled (instruction sheet pc).a 1 (cell_of (fact_written which sheet pc slots row (instruction sheet pc).a))

-- by the opcode
unfoldable pub effect_of : AnalysisKind → List ℕ → ℕ → List ℕ → Row → Effect
effect_of which sheet pc slots row = effect_by (eqb (instruction sheet pc).op CopyN) (iterates which (instruction sheet pc).op) which sheet pc slots row
