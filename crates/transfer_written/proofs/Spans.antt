-- The slots that an instruction writes, as the code finds them.
-- Assumes nothing.
use mathlib.Core.Path.{◌≡◌, refl}
use mathlib.Core.List.{List}
use Prim.Native.Nat.{ℕ, ◌<◌}
use native.Mathlib.Omega.{arith}
use lib.ListN.{length}
use Rattle.model.specs.Fact.{Fact, unknown, Row}
use Rattle.model.specs.Sheet.{instruction, code_count, first_range}
use Rattle.model.specs.Transfer.{fact_for}
use Rattle.model.specs.Written.{Writes, slot_set, slot_set_n, by_ranges, writes}
use Rattle.model.specs.declared.AnalysisKind.{AnalysisKind}
use Rattle.model.specs.declared.AnalysisKind.TheVariants.{Constant, IndexCheck, Container}
use Rattle.memory.specs.Front.{Holds}
use Rattle.sheet.specs.Measured.{Accepted}
use Rattle.sheet.specs.declared.Sizes.{Sizes}
use Rattle.sheet.proofs.SizeNames.{counted}
use Rattle.transfer_written.specs.Spans.{spans, index_spans_by, index_spans, elements_fact, elements_in, slots_written}

-- ---- by ranges

module _ {sheet : List ℕ} {sizes : Sizes} (a : Accepted sheet sizes) {firsts : List ℕ} (t : Holds (first_range sheet) (code_count sheet) firsts)
    (pc : ℕ) (h : pc < sizes.code_count) where
  pub in_code : pc < code_count sheet
  in_code = omega (arith, (counted a.are).code_count_is)

  pub in_firsts : pc < length firsts
  in_firsts = omega (arith, t.long, in_code)

-- ---- by the analysis

-- only SlotSet and SlotSetN go by b's fact
by_elements : (sheet : List ℕ) (pc : ℕ) (w : Writes) (before : Fact) → index_spans_by w (elements_fact w before) sheet pc ≡ index_spans_by w before sheet pc
unfolding index_spans_by elements_fact
by_elements sheet pc slot_set before = refl
by_elements sheet pc slot_set_n before = refl
by_elements sheet pc by_ranges before = refl

-- without b's fact, as in the other analyses
by_none : (sheet : List ℕ) (pc : ℕ) (w : Writes) → index_spans_by w unknown sheet pc ≡ spans sheet pc
unfolding index_spans_by
by_none sheet pc slot_set = refl
by_none sheet pc slot_set_n = refl
by_none sheet pc by_ranges = refl

pub by_analysis : (sheet : List ℕ) (pc : ℕ) (slots : List ℕ) (row : Row) (which : AnalysisKind)
    → index_spans sheet pc (elements_in which (elements_fact (writes (instruction sheet pc).op) (fact_for slots row (instruction sheet pc).b))) ≡ slots_written which sheet pc slots row
unfolding index_spans elements_in slots_written
by_analysis sheet pc slots row Constant = by_none sheet pc (writes (instruction sheet pc).op)
by_analysis sheet pc slots row IndexCheck = by_elements sheet pc (writes (instruction sheet pc).op) (fact_for slots row (instruction sheet pc).b)
by_analysis sheet pc slots row Container = by_none sheet pc (writes (instruction sheet pc).op)
