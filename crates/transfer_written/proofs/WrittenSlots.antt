-- The slots that the code finds are those that `model` says.
-- Assumes nothing.
use mathlib.Core.Path.{◌≡◌, refl, ◌∙◌}
use mathlib.Core.Bool.{Bool, true, false, ◌&&◌, and-true}
use mathlib.Core.List.{List}
use Prim.Native.Nat.{ℕ, ◌+◌, ◌*◌, ◌≤◌, ◌<◌, min}
use native.Mathlib.Omega.{arith}
use lib.Dec.{leb}
use borrow.Author.Tests.{lt-ltb, le-ltb, le-leb}
use Rattle.model.specs.Fact.{Fact, unknown, conflict, known, Row}
use Rattle.model.specs.Sheet.{instruction, write_count, erred, ranges_of, first_range}
use Rattle.model.specs.Transfer.{fact_for}
use Rattle.model.specs.Written.{in_range, ranges_write, slot_layout_note, has_elements, Writes, slot_set, slot_set_n, by_ranges, writes, written_by, written, note_elem_slots, index_written_by, index_written}
use Rattle.model.specs.declared.AnalysisKind.{AnalysisKind}
use Rattle.model.specs.declared.AnalysisKind.TheVariants.{Constant, IndexCheck, Container}
use Rattle.sheet.specs.Measured.{Accepted}
use Rattle.sheet.specs.declared.Sizes.{Sizes}
use Rattle.sheet.proofs.AcceptedSheet.{ranges_fit}
use Rattle.transfer_written.specs.Ranges.{holds_slot, ranges_end, SlotsAre}
use Rattle.transfer_written.specs.Spans.{range_spans, element_spans, spans_by, spans, index_spans_by, index_spans, slots_written, slot_written}
use Rattle.transfer_written.specs.declared.Written.TheVariants.{Span}
use Rattle.transfer_written.proofs.RangeTests.{span_reaches}

-- 65,536 slots from a on are all from a up
from_up : (slot a : ℕ) → slot < 65536 → in_range slot a 65536 ≡ leb a slot
unfolding in_range
from_up slot a h = rw (lt-ltb slot (a + 65536) (omega arith)) (and-true (leb a slot))

none_in : (slot : ℕ) → in_range slot 0 0 ≡ false
unfolding in_range
none_in slot = rw (le-leb 0 slot (omega arith), le-ltb slot 0 (omega arith))

module _ (sheet : List ℕ) (sizes : Sizes) where
  span_is : (start count : ℕ) (test : ℕ → Bool) → ((slot : ℕ) → slot < 65536 → in_range slot start count ≡ test slot) → SlotsAre (Span start count) sheet sizes test
  unfolding holds_slot ranges_end
  span_is start count test h = record { slots = h; fits = omega arith }

  elements_are : (pc : ℕ) (has : Bool) → SlotsAre (element_spans has sheet pc) sheet sizes (λ slot. has && leb (instruction sheet pc).a slot)
  unfolding element_spans
  elements_are pc true = span_is (instruction sheet pc).a 65536 _ (λ slot l. from_up slot (instruction sheet pc).a l)
  elements_are pc false = span_is 0 0 _ (λ slot l. none_in slot)

module _ {sheet : List ℕ} {sizes : Sizes} (a : Accepted sheet sizes) (pc : ℕ) (h : pc < sizes.code_count) where
  inside : erred sheet pc ≡ false → first_range sheet pc + write_count sheet pc ≤ sizes.range_count
  unfolding ranges_of
  inside q = rw q at (ranges_fit a pc h)

  ranges_are : (e : Bool) → erred sheet pc ≡ e → SlotsAre (range_spans e sheet pc) sheet sizes (ranges_write e sheet pc)
  unfolding range_spans ranges_write holds_slot ranges_end
  ranges_are true q = span_is sheet sizes 0 65536 _ (λ slot l. from_up slot 0 l ∙ le-leb 0 slot (omega arith))
  ranges_are false q = record { slots = λ slot l. refl; fits = inside q }

  spans_by_lem : (w : Writes) → SlotsAre (spans_by w sheet pc) sheet sizes (written_by w sheet pc)
  unfolding spans_by written_by
  spans_by_lem slot_set = span_is sheet sizes (instruction sheet pc).a 65536 _ (λ slot l. from_up slot (instruction sheet pc).a l)
  spans_by_lem slot_set_n = elements_are sheet sizes pc (has_elements (slot_layout_note sheet pc) sheet pc)
  spans_by_lem by_ranges = ranges_are (erred sheet pc) refl

  spans_are : SlotsAre (spans sheet pc) sheet sizes (written sheet pc)
  unfolding spans written
  spans_are = spans_by_lem (writes (instruction sheet pc).op)

  index_spans_by_lem : (w : Writes) (before : Fact) → SlotsAre (index_spans_by w before sheet pc) sheet sizes (index_written_by w before sheet pc)
  unfolding index_spans_by index_written_by
  index_spans_by_lem slot_set (known k len) = span_is sheet sizes (instruction sheet pc).a (min len 65536 * 1) _ (λ slot l. span_reaches len 1 slot (instruction sheet pc).a l)
  index_spans_by_lem slot_set unknown = spans_are
  index_spans_by_lem slot_set conflict = spans_are
  index_spans_by_lem slot_set_n (known k len) =
      let elem = note_elem_slots (slot_layout_note sheet pc) sheet pc in
      span_is sheet sizes (instruction sheet pc).a (min len 65536 * elem) _ (λ slot l. span_reaches len elem slot (instruction sheet pc).a l)
  index_spans_by_lem slot_set_n unknown = spans_are
  index_spans_by_lem slot_set_n conflict = spans_are
  index_spans_by_lem by_ranges before = spans_are

  pub index_spans_are : (before : Fact) → SlotsAre (index_spans sheet pc before) sheet sizes (index_written sheet pc before)
  unfolding index_spans index_written
  index_spans_are before = index_spans_by_lem (writes (instruction sheet pc).op) before

  -- in one of the analyses
  pub written_are : (which : AnalysisKind) (slots : List ℕ) (row : Row) → SlotsAre (slots_written which sheet pc slots row) sheet sizes (slot_written which sheet pc slots row)
  unfolding slots_written slot_written
  written_are Constant slots row = spans_are
  written_are IndexCheck slots row = index_spans_are (fact_for slots row (instruction sheet pc).b)
  written_are Container slots row = spans_are

-- no Checked b, as in the other analyses
unchecked_by : (w : Writes) (sheet : List ℕ) (pc slot : ℕ) → index_written_by w unknown sheet pc slot ≡ written sheet pc slot
unfolding index_written_by
unchecked_by slot_set sheet pc slot = refl
unchecked_by slot_set_n sheet pc slot = refl
unchecked_by by_ranges sheet pc slot = refl

pub unchecked : (sheet : List ℕ) (pc slot : ℕ) → index_written sheet pc unknown slot ≡ written sheet pc slot
unfolding index_written
unchecked sheet pc slot = unchecked_by (writes (instruction sheet pc).op) sheet pc slot
