-- The lines of the rows of an analysis, row by row.
-- Assumes nothing.
use mathlib.Core.Path.{◌≡◌, refl, ap₂}
use mathlib.Core.List.{List, ◌++◌}
use Prim.Native.Nat.{ℕ, ◌+◌, ◌*◌, ◌-◌, ◌≤◌}
use native.Mathlib.Nat.{mul-le-mul_right, suc-mul}
use native.Mathlib.Numerals.{add-one}
use native.Mathlib.Omega.{arith}
use lib.ListN.{length, get_or, take, drop}
use lib.Seq.{length-take-le}
use Rattle.model.specs.Fact.{Fact}
use Rattle.model.specs.Count.{collect}
use Rattle.model.specs.Listing.{present_lines, head_line}
use Rattle.model.specs.declared.Counts.{Counts}
use Rattle.model.specs.declared.AnalysisKind.{AnalysisKind}
use Rattle.text_lines.specs.Page.{Written}
use Rattle.text_lines.specs.declared.page.Page.{Page}
use Rattle.text_lines.proofs.TextWritten.{then, reword, no_text}
use Rattle.text_listing.specs.Rows.{table_row_of, row_of, row_in, printed_analysis}
use Rattle.model.specs.Call.{Table}

module _ (text : Fact → List ℕ) (s : ℕ) (t : Table) where
  -- the lines of the row of pc
  abbrev pub row_text : ℕ → List ℕ
  row_text pc = present_lines text pc (take s t.slots) (row_in s t pc)

  -- after pc rows
  abbrev pub Walked : Page → ℕ → Page → Type 0
  Walked old pc new = Written (pc * (89 * s)) (collect row_text pc) old new

  pub walked_none : (page : Page) → Walked page 0 page
  unfolding collect
  walked_none page = reword (omega arith) refl (no_text page)

  pub walked_more : {old mid new : Page} (pc from : ℕ) → s ≤ length t.slots → from ≡ pc * s → Walked old pc mid
      → Written (89 * length (take s t.slots)) (present_lines text pc (take s t.slots) (table_row_of (get_or t.present pc 0) (take (from + s - from) (drop from t.kinds)) (take (from + s - from) (drop from t.values)))) mid new
      → Walked old (pc + 1) new
  unfolding collect row_of
  walked_more pc from h e w v =
      rw (add-one pc)
      (reword (omega (arith, suc-mul pc (89 * s), length-take-le s t.slots h)) (ap₂ (λ (k f : ℕ). collect row_text pc ++ present_lines text pc (take s t.slots) (table_row_of (get_or t.present pc 0) (take k (drop f t.kinds)) (take k (drop f t.values)))) same e) (then w v))
    where
      same : from + s - from ≡ s
      same = omega arith

-- at most 256 rows of at most 32 cells
pub rows_short : (n s : ℕ) → n ≤ 256 → s ≤ 32 → n * (89 * s) ≤ 729088
rows_short n s h k = omega (arith, mul-le-mul_right (89 * s) h)

-- the head, and behind it the rows
pub analysis_written : (which : AnalysisKind) (text : Fact → List ℕ) (t : Table) (c : Counts) (n : ℕ) {old mid new : Page} → n ≤ 256 → c.tracked ≤ 32
    → Written 73 (head_line which n c.tracked c.pops) old mid
    → Written (n * (89 * c.tracked)) (collect (row_text text c.tracked t) n) mid new
    → Written 729161 (printed_analysis which text n c t) old new
unfolding printed_analysis
analysis_written which text t c n h k w v = reword (omega (arith, rows_short n c.tracked h k)) refl (then w v)
