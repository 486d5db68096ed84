-- "Written slots": `instruction_writes_slot` and `index_check_instruction_writes_slot`.
-- Assumes nothing.
use Rattle.std.specs.Prelude.{Bool, true, false, ◌&&◌, ◌||◌, List, [], ◌∷◌, ℕ, zero, suc, ◌+◌, ◌*◌, leb, ltb, eqb}
use Rattle.model.specs.Sheet.{instruction, note_kind, note_a, write_count, erred, first_range, range_start, range_length, layout_length, sheet_compute}
use Rattle.model.specs.Opcode.{SlotSet, SlotSetN, select, opcode_compute}
use Rattle.model.specs.Fact.{Fact, unknown, conflict, known}

-- "start up to but not including start + length, in whole numbers"
unfoldable pub in_range : ℕ → ℕ → ℕ → Bool
in_range slot start count = leb start slot && ltb slot (start + count)

-- whether one of `count` ranges from the range `first` on holds the slot
unfoldable pub in_ranges : List ℕ → ℕ → ℕ → ℕ → Bool
in_ranges sheet slot first zero = false
in_ranges sheet slot first (suc count) = in_range slot (range_start sheet first) (range_length sheet first) || in_ranges sheet slot (suc first) count

-- "For all other opcodes the ranges decide .., and an erring visitor writes all."
unfoldable pub ranges_write : Bool → List ℕ → ℕ → ℕ → Bool
ranges_write true sheet pc slot = true
ranges_write false sheet pc slot = in_ranges sheet slot (first_range sheet pc) (write_count sheet pc)

-- "a SlotLayout note"
unfoldable pub slot_layout_note : List ℕ → ℕ → Bool
slot_layout_note sheet pc = eqb (note_kind sheet pc) 3

-- "a SlotLayout note whose layout is not empty"
unfoldable pub has_elements : Bool → List ℕ → ℕ → Bool
has_elements true sheet pc = ltb 0 (layout_length sheet (note_a sheet pc))
has_elements false sheet pc = false

-- Which rule says what an instruction writes.
pub data Writes : Type 0 where
  slot_set slot_set_n by_ranges : Writes

-- the opcodes that go by their own rule
unfoldable pub writes : ℕ → Writes
writes op = select op ((SlotSet, slot_set) ∷ (SlotSetN, slot_set_n) ∷ []) by_ranges

-- "SlotSet writes every slot from a up. SlotSetN does so with a SlotLayout note whose layout is not empty, and else writes nothing."
unfoldable pub written_by : Writes → List ℕ → ℕ → ℕ → Bool
written_by slot_set sheet pc slot = leb (instruction sheet pc).a slot
written_by slot_set_n sheet pc slot = has_elements (slot_layout_note sheet pc) sheet pc && leb (instruction sheet pc).a slot
written_by by_ranges sheet pc slot = ranges_write (erred sheet pc) sheet pc slot

-- Whether instruction pc writes the slot, in the constant and container analyses.
unfoldable pub written : List ℕ → ℕ → ℕ → Bool
written sheet pc slot = written_by (writes (instruction sheet pc).op) sheet pc slot

-- "for SlotSetN the SlotLayout's length, or without one the flags byte"
unfoldable pub note_elem_slots : Bool → List ℕ → ℕ → ℕ
note_elem_slots true sheet pc = layout_length sheet (note_a sheet pc)
note_elem_slots false sheet pc = (instruction sheet pc).flags

-- "SlotSet and SlotSetN whose b is Checked len write exactly a up to a + len × e: e is 1 for SlotSet"; `before` is b's fact.
unfoldable pub index_written_by : Writes → Fact → List ℕ → ℕ → ℕ → Bool
index_written_by slot_set (known k len) sheet pc slot = in_range slot (instruction sheet pc).a (len * 1)
index_written_by slot_set unknown sheet pc slot = written sheet pc slot
index_written_by slot_set conflict sheet pc slot = written sheet pc slot
index_written_by slot_set_n (known k len) sheet pc slot = in_range slot (instruction sheet pc).a (len * note_elem_slots (slot_layout_note sheet pc) sheet pc)
index_written_by slot_set_n unknown sheet pc slot = written sheet pc slot
index_written_by slot_set_n conflict sheet pc slot = written sheet pc slot
index_written_by by_ranges before sheet pc slot = written sheet pc slot

-- Whether instruction pc writes the slot in the index analysis.
unfoldable pub index_written : List ℕ → ℕ → Fact → ℕ → Bool
index_written sheet pc before slot = index_written_by (writes (instruction sheet pc).op) before sheet pc slot

unfoldable pub written_compute : Unit {0}
unfolding sheet_compute opcode_compute
    in_range in_ranges ranges_write slot_layout_note has_elements writes written_by written note_elem_slots index_written_by index_written
written_compute = tt
