-- "Closure", its first part: the edges of `FactDependencyGraph::build`, what they cost, and the seeds of the three `tracked_..._slots`.
-- Assumes nothing.
use Rattle.std.specs.Prelude.{Bool, true, false, ◌&&◌, List, [], ◌∷◌, ◌++◌, ℕ, ◌+◌, ltb, eqb, length}
use Rattle.model.specs.Count.{collect, count_compute}
use Rattle.model.specs.Sheet.{code_count, local_slots, instruction, sheet_compute}
use Rattle.model.specs.Opcode as O
use Rattle.model.specs.Opcode.{select, opcode_compute}
use Rattle.model.specs.Charges.{units, Metered, ◌>>◌, spend_bytes, spend_work, for_each, charges_compute}
use Rattle.model.specs.declared.Instruction.{Instruction}
use Rattle.model.specs.declared.AnalysisKind.{AnalysisKind}
use Rattle.model.specs.declared.AnalysisKind.TheVariants.{Constant, IndexCheck, Container}

-- "A dependency mask has bit 0 constant, bit 1 index, bit 2 container.": the bit that an analysis tests
unfoldable pub dependency_bit : AnalysisKind → ℕ
dependency_bit Constant = 1
dependency_bit IndexCheck = 2
dependency_bit Container = 4

-- `COPY_DEPENDENCIES`: all three bits
abbrev pub copy_dependencies : ℕ
copy_dependencies = 7

-- ---- edges

-- `FactDependency`, with its destination: the mask of the analyses in which the destination follows the source.
pub record FactDependency : Type 0 where
  pub destination : ℕ
  pub source : ℕ
  pub kinds : ℕ

-- an edge, where the test holds
unfoldable pub edge_if : Bool → ℕ → ℕ → ℕ → List FactDependency
edge_if true destination source kinds = record { destination = destination; source = source; kinds = kinds } ∷ []
edge_if false destination source kinds = []

-- an edge whose ends are both below L (l here): `FactDependencyGraph::push`
unfoldable pub edge : ℕ → ℕ → ℕ → ℕ → List FactDependency
edge l destination source kinds = edge_if (ltb destination l && ltb source l) destination source kinds

-- The ways in which the slots that an instruction sets depend on others.
pub data Depends : Type 0 where
  copy_edge copy_n_edges fold_edges iter_edge no_edges : Depends

-- the opcodes that have edges
unfoldable pub depends : ℕ → Depends
depends op = select op ((O.Copy, copy_edge) ∷ (O.CopyN, copy_n_edges) ∷ (O.Shl, fold_edges) ∷ (O.Or, fold_edges) ∷ (O.MapIterInit, iter_edge) ∷ []) no_edges

-- The edges of an instruction in order. "CopyN's count is c": a + i from b + i for i below c, in whole numbers.
unfoldable pub edges_by : Depends → ℕ → Instruction → List FactDependency
edges_by copy_edge l inst = edge l inst.a inst.b copy_dependencies
edges_by copy_n_edges l inst = collect (λ i. edge l (inst.a + i) (inst.b + i) copy_dependencies) inst.c
edges_by fold_edges l inst = edge l inst.a inst.b (dependency_bit Constant) ++ edge l inst.a inst.c (dependency_bit Constant)
edges_by iter_edge l inst = edge l inst.a inst.b (dependency_bit Container)
edges_by no_edges l inst = []

-- the edges of an instruction, by its opcode
unfoldable pub instruction_edges : ℕ → Instruction → List FactDependency
instruction_edges l inst = edges_by (depends inst.op) l inst

-- an edge before others, where the test holds
unfoldable pub keep_if : Bool → FactDependency → List FactDependency → List FactDependency
keep_if true e es = e ∷ es
keep_if false e es = es

-- those of the edges that lead to a destination
unfoldable pub edges_into : ℕ → List FactDependency → List FactDependency
edges_into d [] = []
edges_into d (e ∷ es) = keep_if (eqb e.destination d) e (edges_into d es)

-- the edges to a destination, in code order: `by_destination`
unfoldable pub edges_to : List ℕ → ℕ → List FactDependency
edges_to sheet d = collect (λ pc. edges_into d (instruction_edges (local_slots sheet) (instruction sheet pc))) (code_count sheet)

-- ---- what they cost

-- the work of a CopyN: its whole count, charged before its edges
unfoldable pub copy_work : Depends → Instruction → ℕ
copy_work copy_n_edges inst = inst.c
copy_work copy_edge inst = 0
copy_work fold_edges inst = 0
copy_work iter_edge inst = 0
copy_work no_edges inst = 0

-- Each edge is charged by itself. (A charge of 0 always passes, so that others than CopyN charge no work.)
unfoldable pub charge_instruction : ℕ → Instruction → Metered (Unit {0})
charge_instruction l inst = do
  spend_work 2 (copy_work (depends inst.op) inst)
  for_each (λ i. spend_bytes 2 units.dependency) (length (instruction_edges l inst))

-- the instructions' charges, in code order
unfoldable pub charge_dependencies : List ℕ → Metered (Unit {0})
charge_dependencies sheet = for_each (λ pc. charge_instruction (local_slots sheet) (instruction sheet pc)) (code_count sheet)

-- ---- "Seeds as in `tracked_constant_slots`, `tracked_index_check_slots`, `tracked_container_slots`."

-- A field that names a seed. next_b is b + 1.
pub data Field : Type 0 where
  field_a field_b next_b field_c : Field

-- the number in a field
unfoldable pub field : Instruction → Field → ℕ
field inst field_a = inst.a
field inst field_b = inst.b
field inst next_b = inst.b + 1
field inst field_c = inst.c

-- the fields of an instruction that are seeds of an analysis, in the order of the Rust
unfoldable pub seed_fields : AnalysisKind → ℕ → List Field
seed_fields Constant op = select op
    ((O.MapNew, field_b ∷ next_b ∷ []) ∷ (O.ArrayNew, field_b ∷ []) ∷ (O.SliceNew, field_b ∷ []) ∷ (O.SliceAppend, field_c ∷ []) ∷ (O.PtrNew, field_b ∷ [])
    ∷ (O.QueueNew, field_b ∷ []) ∷ (O.IndexCheck, field_b ∷ []) ∷ [])
    []
seed_fields IndexCheck op = select op ((O.SlotGet, field_c ∷ []) ∷ (O.SlotGetN, field_c ∷ []) ∷ (O.SlotSet, field_b ∷ []) ∷ (O.SlotSetN, field_b ∷ []) ∷ []) []
seed_fields Container op = select op
    ((O.MapNew, field_a ∷ []) ∷ (O.MapGet, field_b ∷ []) ∷ (O.MapSet, field_a ∷ []) ∷ (O.MapDelete, field_a ∷ []) ∷ (O.MapIterInit, field_a ∷ field_b ∷ [])
    ∷ (O.MapIterNext, field_b ∷ []) ∷ (O.MapLen, field_b ∷ []) ∷ (O.QueueNew, field_a ∷ []) ∷ (O.QueueSend, field_a ∷ []) ∷ (O.QueueClose, field_a ∷ [])
    ∷ (O.SelectSend, field_a ∷ []) ∷ (O.QueueRecv, field_b ∷ []) ∷ (O.SelectRecv, field_b ∷ []) ∷ (O.QueueLen, field_b ∷ []) ∷ (O.QueueCap, field_b ∷ []) ∷ [])
    []

unfoldable pub dependencies_compute : Unit {0}
unfolding count_compute sheet_compute opcode_compute charges_compute
    dependency_bit edge_if edge depends edges_by instruction_edges keep_if edges_into edges_to copy_work charge_instruction charge_dependencies field seed_fields
dependencies_compute = tt
