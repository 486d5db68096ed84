-- "Transfers": the three `apply_...` functions, cell by cell over a row.
-- "All reads take the state before the instruction.": a cell's new fact comes from the whole row before.
-- Assumes nothing.
use Rattle.std.specs.Prelude.{Bool, true, false, cond, ◌&&◌, List, [], ◌∷◌, ℕ, zero, suc, ◌+◌, ◌*◌, ◌-◌, ◌%◌, ◌^◌, leb, ltb, eqb, ℤ, pos, negsuc}
use Rattle.std.proofs.Math.Option.{Option, none, some}
use Rattle.std.specs.Int.Bits.{bit_or}
use Rattle.model.specs.Sheet.{constant_count, instruction, note_kind, note_a, note_b, constant_kind, constant_bits, sheet_compute}
use Rattle.model.specs.Opcode as O
use Rattle.model.specs.Opcode.{select, opcode_compute}
use Rattle.model.specs.Successors.{signed, imm32, successors_compute}
use Rattle.model.specs.Written.{in_range, written, index_written, written_compute}
use Rattle.model.specs.Fact.{Fact, unknown, conflict, known, Row}
use Rattle.model.specs.declared.Instruction.{Instruction}
use Rattle.model.specs.declared.AnalysisKind.{AnalysisKind}
use Rattle.model.specs.declared.AnalysisKind.TheVariants.{Constant, IndexCheck, Container}

-- ---- rows over tracked slots

-- `fact_for_tracked_source`: the fact of a slot; of an untracked one Unknown. Slots and row are equally long.
unfoldable pub fact_for : List ℕ → Row → ℕ → Fact
fact_for [] row slot = unknown
fact_for (t ∷ ts) [] slot = unknown
fact_for (t ∷ ts) (f ∷ fs) slot = cond (eqb slot t) f (fact_for ts fs slot)

-- each tracked slot's new fact, from the slot and its old fact
unfoldable pub each_cell : (ℕ → Fact → Fact) → List ℕ → Row → Row
each_cell cell [] row = []
each_cell cell (t ∷ ts) [] = []
each_cell cell (t ∷ ts) (f ∷ fs) = cell t f ∷ each_cell cell ts fs

-- the new fact where the test holds, else the old one
unfoldable pub replaced : Bool → Fact → Fact → Fact
replaced true old new = new
replaced false old new = old

-- the row with one slot's fact set, if the slot is tracked
unfoldable pub put : List ℕ → Row → ℕ → Fact → Row
put slots row slot fact = each_cell (λ t old. replaced (eqb t slot) old fact) slots row

-- "any other written slot becomes Unknown": the fact where the test holds
unfoldable pub target : Bool → Fact → Fact
target true fact = fact
target false fact = unknown

-- Copy's fact for a written slot: a gets b's
unfoldable pub copied : Instruction → List ℕ → Row → ℕ → Fact
copied inst slots row slot = target (eqb inst.a slot) (fact_for slots row inst.b)

-- CopyN's: a + i gets that of b + i, for i below c. No slot past 65,535 is tracked, so a source there is Unknown.
unfoldable pub copied_n : Instruction → List ℕ → Row → ℕ → Fact
copied_n inst slots row slot = target (in_range slot inst.a inst.c) (fact_for slots row (inst.b + (slot - inst.a)))

-- ---- constants

-- "Constants: 2 known from zero up, 3 negative, value plus 2^64."
unfoldable pub integer : ℤ → Fact
integer (pos v) = known 0 v
integer (negsuc v) = known 1 (2 ^ 64 - suc v)

-- `u64_fact_for_tracked_source`: "facts from 0 to 2^64 − 1"
unfoldable pub u64_fact : Fact → Option ℕ
u64_fact unknown = none
u64_fact conflict = none
u64_fact (known zero v) = some v
u64_fact (known (suc k) v) = none

-- "Shl and Or fold only two facts from 0 to 2^64 − 1."
unfoldable pub fold_binary : (ℕ → ℕ → Fact) → Option ℕ → Option ℕ → Fact
fold_binary f none y = unknown
fold_binary f (some x) none = unknown
fold_binary f (some x) (some y) = f x y

-- a shift by 64 or more is Unknown; what is shifted past 64 bits is lost, as in the Rust
unfoldable pub shifted : Bool → ℕ → ℕ → Fact
shifted true x y = known 0 (x * 2 ^ y % 2 ^ 64)
shifted false x y = unknown

-- the fold of Shl
unfoldable pub shl : ℕ → ℕ → Fact
shl x y = shifted (ltb y 64) x y

-- the fold of Or
unfoldable pub or : ℕ → ℕ → Fact
or x y = known 0 (bit_or x y)

-- `fold_u64_constant_binary`: of the facts of b and c
unfoldable pub fold : (ℕ → ℕ → Fact) → Instruction → List ℕ → Row → Fact
fold f inst slots row = fold_binary f (u64_fact (fact_for slots row inst.b)) (u64_fact (fact_for slots row inst.c))

-- LoadConst of an integer constant; any other, and a number from k up, is Unknown
unfoldable pub loaded : Bool → List ℕ → ℕ → Fact
loaded true sheet i = integer (signed 64 (constant_bits sheet i))
loaded false sheet i = unknown

-- "constant kinds (k bytes: 0 other, 1 integer)"
unfoldable pub load_const : List ℕ → ℕ → Fact
load_const sheet i = loaded (ltb i (constant_count sheet) && eqb (constant_kind sheet i) 1) sheet i

-- Which rule gives a written slot its constant fact.
pub data ConstantRule : Type 0 where
  load_int_rule load_const_rule copy_constant_rule copy_n_constant_rule shl_rule or_rule other_constant_rule : ConstantRule

-- the opcodes of `constant_fact_written_to_slot`
unfoldable pub constant_rule : ℕ → ConstantRule
constant_rule op = select op
    ((O.LoadInt, load_int_rule) ∷ (O.LoadConst, load_const_rule) ∷ (O.Copy, copy_constant_rule) ∷ (O.CopyN, copy_n_constant_rule) ∷ (O.Shl, shl_rule) ∷ (O.Or, or_rule) ∷ [])
    other_constant_rule

-- "Copied, folded, loaded .. facts follow the Rust": `constant_fact_written_to_slot`
unfoldable pub constant_fact : ConstantRule → List ℕ → Instruction → List ℕ → Row → ℕ → Fact
constant_fact load_int_rule sheet inst slots row slot = target (eqb inst.a slot) (integer (imm32 inst))
constant_fact load_const_rule sheet inst slots row slot = target (eqb inst.a slot) (load_const sheet inst.b)
constant_fact copy_constant_rule sheet inst slots row slot = copied inst slots row slot
constant_fact copy_n_constant_rule sheet inst slots row slot = copied_n inst slots row slot
constant_fact shl_rule sheet inst slots row slot = target (eqb inst.a slot) (fold shl inst slots row)
constant_fact or_rule sheet inst slots row slot = target (eqb inst.a slot) (fold or inst slots row)
constant_fact other_constant_rule sheet inst slots row slot = unknown

-- "any other written slot becomes Unknown"; a slot that is not written keeps its fact
unfoldable pub constant_cell : List ℕ → List ℕ → ℕ → Row → ℕ → Fact → Fact
constant_cell sheet slots pc row slot old =
    replaced (written sheet pc slot) old (constant_fact (constant_rule (instruction sheet pc).op) sheet (instruction sheet pc) slots row slot)

-- `apply_constant_fact_transfer`
unfoldable pub constant_transfer : List ℕ → List ℕ → ℕ → Row → Row
constant_transfer sheet slots pc row = each_cell (λ slot old. constant_cell sheet slots pc row slot old) slots row

-- ---- index checks

-- "Index: 2 Checked, value len."
unfoldable pub checked : ℕ → Fact
checked len = known 0 len

-- IndexCheck's fact from a constant: 0 to 65,535 is Checked, any other number and Conflict are Conflict, Unknown is Unknown
unfoldable pub checked_from : Fact → Fact
checked_from unknown = unknown
checked_from conflict = conflict
checked_from (known zero v) = cond (leb v 65535) (checked v) conflict
checked_from (known (suc k) v) = conflict

-- Which rule gives a written slot its index fact.
pub data IndexRule : Type 0 where
  copy_index_rule copy_n_index_rule other_index_rule : IndexRule

-- the opcodes of `index_check_fact_written_to_slot`
unfoldable pub index_rule : ℕ → IndexRule
index_rule op = select op ((O.Copy, copy_index_rule) ∷ (O.CopyN, copy_n_index_rule) ∷ []) other_index_rule

-- "Copied .. facts follow the Rust": `index_check_fact_written_to_slot`
unfoldable pub index_fact : IndexRule → Instruction → List ℕ → Row → ℕ → Fact
index_fact copy_index_rule inst slots row slot = copied inst slots row slot
index_fact copy_n_index_rule inst slots row slot = copied_n inst slots row slot
index_fact other_index_rule inst slots row slot = unknown

-- a slot that is not written keeps its fact
unfoldable pub index_cell : List ℕ → List ℕ → ℕ → Row → ℕ → Fact → Fact
index_cell sheet slots pc row slot old =
    replaced (index_written sheet pc (fact_for slots row (instruction sheet pc).b) slot) old
    (index_fact (index_rule (instruction sheet pc).op) (instruction sheet pc) slots row slot)

-- "IndexCheck then sets a", written or not
unfoldable pub index_checked : Bool → Instruction → List ℕ → Fact → Row → Row
index_checked true inst slots fact row = put slots row inst.a fact
index_checked false inst slots fact row = row

-- `apply_index_check_transfer`; `length_fact pc` is the ended constant run's fact of b, the length, before instruction pc
unfoldable pub index_transfer : List ℕ → List ℕ → (ℕ → Fact) → ℕ → Row → Row
index_transfer sheet slots length_fact pc row =
    index_checked (eqb (instruction sheet pc).op O.IndexCheck) (instruction sheet pc) slots (checked_from (length_fact pc))
    (each_cell (λ slot old. index_cell sheet slots pc row slot old) slots row)

-- ---- containers

-- "Containers: 2 map ..; value A × 65,536 + B"
unfoldable pub map_fact : ℕ → ℕ → Fact
map_fact key_layout val_layout = known 0 (key_layout * 65536 + val_layout)

-- "4 queue", "B 0 for a queue"
unfoldable pub queue_fact : ℕ → Fact
queue_fact elem_layout = known 2 (elem_layout * 65536)

-- the note's fact: a map's, a queue's, or none
unfoldable pub instruction_fact_by : Bool → Bool → List ℕ → ℕ → Option Fact
instruction_fact_by true queue sheet pc = some (map_fact (note_a sheet pc) (note_b sheet pc))
instruction_fact_by false true sheet pc = some (queue_fact (note_a sheet pc))
instruction_fact_by false false sheet pc = none

-- `container_instruction_facts`: MapNew under a MapNew note, QueueNew under a QueueLayout note
unfoldable pub instruction_fact : List ℕ → ℕ → Option Fact
instruction_fact sheet pc =
    instruction_fact_by (eqb (instruction sheet pc).op O.MapNew && eqb (note_kind sheet pc) 1) (eqb (instruction sheet pc).op O.QueueNew && eqb (note_kind sheet pc) 2) sheet pc

-- `unwrap_or(Unknown)`
unfoldable pub or_unknown : Option Fact → Fact
or_unknown none = unknown
or_unknown (some fact) = fact

-- MapIterInit's fact from b's: a map or an iterator gives the iterator, Conflict stays
unfoldable pub iter_init : Fact → Fact
iter_init unknown = unknown
iter_init conflict = conflict
iter_init (known zero v) = known 1 v
iter_init (known (suc zero) v) = known 1 v
iter_init (known (suc (suc k)) v) = unknown

-- MapIterNext's fact from b's: an iterator and Conflict stay
unfoldable pub iter_next : Fact → Fact
iter_next unknown = unknown
iter_next conflict = conflict
iter_next (known zero v) = unknown
iter_next (known (suc zero) v) = known 1 v
iter_next (known (suc (suc k)) v) = unknown

-- Which rule gives a written slot its container fact.
pub data ContainerRule : Type 0 where
  new_rule iter_init_rule iter_next_rule copy_container_rule copy_n_container_rule other_container_rule : ContainerRule

-- the opcodes of `container_fact_written_to_slot`
unfoldable pub container_rule : ℕ → ContainerRule
container_rule op = select op
    ((O.MapNew, new_rule) ∷ (O.QueueNew, new_rule) ∷ (O.MapIterInit, iter_init_rule) ∷ (O.MapIterNext, iter_next_rule) ∷ (O.Copy, copy_container_rule) ∷ (O.CopyN, copy_n_container_rule) ∷ [])
    other_container_rule

-- "container facts follow the Rust": `container_fact_written_to_slot`. "MapIterNext covers 7 slots."
unfoldable pub container_fact : ContainerRule → List ℕ → ℕ → List ℕ → Row → ℕ → Fact
container_fact new_rule sheet pc slots row slot = target (eqb (instruction sheet pc).a slot) (or_unknown (instruction_fact sheet pc))
container_fact iter_init_rule sheet pc slots row slot = target (eqb (instruction sheet pc).a slot) (iter_init (fact_for slots row (instruction sheet pc).b))
container_fact iter_next_rule sheet pc slots row slot = target (in_range slot (instruction sheet pc).b 7) (iter_next (fact_for slots row (instruction sheet pc).b))
container_fact copy_container_rule sheet pc slots row slot = copied (instruction sheet pc) slots row slot
container_fact copy_n_container_rule sheet pc slots row slot = copied_n (instruction sheet pc) slots row slot
container_fact other_container_rule sheet pc slots row slot = unknown

-- a slot that is not written keeps its fact
unfoldable pub container_cell : List ℕ → List ℕ → ℕ → Row → ℕ → Fact → Fact
container_cell sheet slots pc row slot old =
    replaced (written sheet pc slot) old (container_fact (container_rule (instruction sheet pc).op) sheet pc slots row slot)

-- `apply_container_layout_transfer`
unfoldable pub container_transfer : List ℕ → List ℕ → ℕ → Row → Row
container_transfer sheet slots pc row = each_cell (λ slot old. container_cell sheet slots pc row slot old) slots row

-- ---- the three

-- "A copy of that instruction's row goes through its transfer.": the transfer of an analysis; only the index analysis reads `length_fact`
unfoldable pub transfer_row : AnalysisKind → List ℕ → List ℕ → (ℕ → Fact) → ℕ → Row → Row
transfer_row Constant sheet slots length_fact pc row = constant_transfer sheet slots pc row
transfer_row IndexCheck sheet slots length_fact pc row = index_transfer sheet slots length_fact pc row
transfer_row Container sheet slots length_fact pc row = container_transfer sheet slots pc row

unfoldable pub transfer_compute : Unit {0}
unfolding sheet_compute opcode_compute successors_compute written_compute
    fact_for each_cell replaced put target copied copied_n
    integer u64_fact fold_binary shifted shl or fold loaded load_const constant_rule constant_fact constant_cell constant_transfer
    checked checked_from index_rule index_fact index_cell index_checked index_transfer
    map_fact queue_fact instruction_fact_by instruction_fact or_unknown iter_init iter_next container_rule container_fact container_cell container_transfer
    transfer_row
transfer_compute = tt
