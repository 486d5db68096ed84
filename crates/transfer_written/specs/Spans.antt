-- The slots that an instruction writes, as one range of slots or as ranges of the sheet.
-- Assumes nothing.
use Rattle.std.specs.Prelude.{Bool, true, false, List, ℕ, ◌*◌, min}
use Rattle.model.specs.Fact.{Fact, unknown, conflict, known, Row}
use Rattle.model.specs.Sheet.{instruction, write_count, erred, first_range}
use Rattle.model.specs.Transfer.{fact_for}
use Rattle.model.specs.Written.{slot_layout_note, has_elements, note_elem_slots, Writes, slot_set, slot_set_n, by_ranges, writes, written, index_written}
use Rattle.model.specs.declared.AnalysisKind.{AnalysisKind}
use Rattle.model.specs.declared.AnalysisKind.TheVariants.{Constant, IndexCheck, Container}
use Rattle.transfer_written.specs.declared.Written.{Written}
use Rattle.transfer_written.specs.declared.Written.TheVariants.{Span, Ranges}

-- "For all other opcodes the ranges decide .., and an erring visitor writes all.": 65,536 slots are all
unfoldable pub range_spans : Bool → List ℕ → ℕ → Written
range_spans true sheet pc = Span 0 65536
range_spans false sheet pc = Ranges (first_range sheet pc) (write_count sheet pc)

-- every slot from a up, or "nothing"
unfoldable pub element_spans : Bool → List ℕ → ℕ → Written
element_spans true sheet pc = Span (instruction sheet pc).a 65536
element_spans false sheet pc = Span 0 0

-- "SlotSet writes every slot from a up. SlotSetN does so with a SlotLayout note whose layout is not empty, and else writes nothing."
unfoldable pub spans_by : Writes → List ℕ → ℕ → Written
spans_by slot_set sheet pc = Span (instruction sheet pc).a 65536
spans_by slot_set_n sheet pc = element_spans (has_elements (slot_layout_note sheet pc) sheet pc) sheet pc
spans_by by_ranges sheet pc = range_spans (erred sheet pc) sheet pc

-- in the constant and container analyses
unfoldable pub spans : List ℕ → ℕ → Written
spans sheet pc = spans_by (writes (instruction sheet pc).op) sheet pc

-- "SlotSet and SlotSetN whose b is Checked len write exactly a up to a + len × e", of no more than 65,536 elements; `before` is b's fact
unfoldable pub index_spans_by : Writes → Fact → List ℕ → ℕ → Written
index_spans_by slot_set (known k len) sheet pc = Span (instruction sheet pc).a (min len 65536 * 1)
index_spans_by slot_set unknown sheet pc = spans sheet pc
index_spans_by slot_set conflict sheet pc = spans sheet pc
index_spans_by slot_set_n (known k len) sheet pc = Span (instruction sheet pc).a (min len 65536 * note_elem_slots (slot_layout_note sheet pc) sheet pc)
index_spans_by slot_set_n unknown sheet pc = spans sheet pc
index_spans_by slot_set_n conflict sheet pc = spans sheet pc
index_spans_by by_ranges before sheet pc = spans sheet pc

-- "In the index analysis"
unfoldable pub index_spans : List ℕ → ℕ → Fact → Written
index_spans sheet pc before = index_spans_by (writes (instruction sheet pc).op) before sheet pc

-- b's fact where it says how many elements are written
unfoldable pub elements_fact : Writes → Fact → Fact
elements_fact slot_set before = before
elements_fact slot_set_n before = before
elements_fact by_ranges before = unknown

-- "In the index analysis" alone
unfoldable pub elements_in : AnalysisKind → Fact → Fact
elements_in Constant before = unknown
elements_in IndexCheck before = before
elements_in Container before = unknown

-- in one of the analyses
unfoldable pub slots_written : AnalysisKind → List ℕ → ℕ → List ℕ → Row → Written
slots_written Constant sheet pc slots row = spans sheet pc
slots_written IndexCheck sheet pc slots row = index_spans sheet pc (fact_for slots row (instruction sheet pc).b)
slots_written Container sheet pc slots row = spans sheet pc

-- whether the instruction at pc writes the slot, in one of the analyses
unfoldable pub slot_written : AnalysisKind → List ℕ → ℕ → List ℕ → Row → ℕ → Bool
slot_written Constant sheet pc slots row slot = written sheet pc slot
slot_written IndexCheck sheet pc slots row slot = index_written sheet pc (fact_for slots row (instruction sheet pc).b) slot
slot_written Container sheet pc slots row slot = written sheet pc slot
