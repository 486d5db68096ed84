-- The lines of a row, cell by cell.
-- Assumes nothing.
use mathlib.Core.Path.{◌≡◌, refl, sym, ap, ap₂, ◌∙◌}
use mathlib.Core.List.{List, [], ◌∷◌, ◌++◌, append_assoc, append-nil}
use Prim.Native.Nat.{ℕ, zero, suc, ◌+◌, ◌*◌, ◌<◌}
use native.Mathlib.Nat.{not-suc-le-zero, le_of_suc-le-suc}
use native.Mathlib.Numerals.{add-one}
use native.Mathlib.Omega.{arith}
use lib.ListN.{length, get_or, take}
use lib.Seq.{take_all}
use borrow.Author.Tests.{eq-eqb, ne_eqb}
use Rattle.model.specs.Fact.{Fact, unknown, Row}
use Rattle.model.specs.Tables.{fact_of, facts_of}
use Rattle.model.specs.Listing.{decimal, space, newline, row_lines, present_lines}
use Rattle.model.proofs.Facts.{length_facts_lem}
use Rattle.text_lines.specs.Page.{Written}
use Rattle.text_lines.specs.declared.page.Page.{Page}
use Rattle.text_listing.specs.Rows.{cell_line, present_row, table_row_of}
use Rattle.text_lines.proofs.TextWritten.{then, reword, no_text}

-- ---- the facts of a row's kinds and values

fact_at : (kinds values : List ℕ) (j : ℕ) → j < length kinds → j < length values → get_or (facts_of kinds values) j unknown ≡ fact_of (get_or kinds j 0) (get_or values j 0)
unfolding facts_of
fact_at [] values j h l = absurd (not-suc-le-zero h)
fact_at (k ∷ ks) [] j h l = absurd (not-suc-le-zero l)
fact_at (k ∷ ks) (v ∷ vs) zero h l = refl
fact_at (k ∷ ks) (v ∷ vs) (suc j) h l = fact_at ks vs j (le_of_suc-le-suc h) (le_of_suc-le-suc l)

-- ---- the lines

module _ (text : Fact → List ℕ) (pc : ℕ) where
  -- those of the first j cells
  abbrev pub first_lines : List ℕ → Row → ℕ → List ℕ
  first_lines slots row j = row_lines text pc (take j slots) (take j row)

  one_more : (slots : List ℕ) (row : Row) (j : ℕ) → j < length slots → j < length row
      → first_lines slots row j ++ cell_line text pc (get_or slots j 0) (get_or row j unknown) ≡ first_lines slots row (suc j)
  unfolding row_lines cell_line
  one_more [] row j h l = absurd (not-suc-le-zero h)
  one_more (s ∷ ss) [] j h l = absurd (not-suc-le-zero l)
  one_more (s ∷ ss) (f ∷ fs) zero h l = sym (append-nil (decimal pc ++ space ++ decimal s ++ space ++ text f ++ newline))
  one_more (s ∷ ss) (f ∷ fs) (suc j) h l =
      append_assoc (decimal pc ++ space ++ decimal s ++ space ++ text f ++ newline) (first_lines ss fs j) (cell_line text pc (get_or ss j 0) (get_or fs j unknown))
      ∙ ap (λ (rest : List ℕ). decimal pc ++ space ++ decimal s ++ space ++ text f ++ newline ++ rest) (one_more ss fs j (le_of_suc-le-suc h) (le_of_suc-le-suc l))

  -- after j cells
  module _ (slots kinds values : List ℕ) where
    abbrev pub CellsListed : Page → ℕ → Page → Type 0
    CellsListed old j new = Written (89 * j) (first_lines slots (facts_of kinds values) j) old new

    pub listed_none : (page : Page) → CellsListed page 0 page
    unfolding row_lines
    listed_none page = no_text page

    pub listed_more : {old mid new : Page} (j : ℕ) → length kinds ≡ length slots → length values ≡ length slots → j < length slots → CellsListed old j mid
        → Written 89 (cell_line text pc (get_or slots j 0) (fact_of (get_or kinds j 0) (get_or values j 0))) mid new → CellsListed old (j + 1) new
    listed_more j hk hv l w v =
        reword (omega arith)
        (ap (λ (f : Fact). first_lines slots (facts_of kinds values) j ++ cell_line text pc (get_or slots j 0) f) (sym (fact_at kinds values j (omega arith) (omega arith)))
        ∙ one_more slots (facts_of kinds values) j l (omega (arith, length_facts_lem kinds values (omega arith)))
        ∙ ap (first_lines slots (facts_of kinds values)) (sym (add-one j)))
        (then w v)

    abbrev pub Row-written : ℕ → Page → Page → Type 0
    Row-written byte old new = Written (89 * length slots) (present_lines text pc slots (table_row_of byte kinds values)) old new

    -- a present row
    pub listed_all : {old new : Page} (byte j : ℕ) → length kinds ≡ length slots → length values ≡ length slots → byte ≡ 1 → j ≡ length slots → CellsListed old j new
        → Row-written byte old new
    unfolding present_lines table_row_of present_row
    listed_all byte j hk hv b e w =
        rw (eq-eqb byte 1 b)
        (reword (omega arith) (ap₂ (row_lines text pc) (take_all j slots (omega arith)) (take_all j (facts_of kinds values) (omega (arith, length_facts_lem kinds values (omega arith))))) w)

    -- an absent one
    pub listed_nothing : (page : Page) (byte : ℕ) → (byte ≡ 1 → ⊥) → Row-written byte page page
    unfolding present_lines table_row_of present_row
    listed_nothing page byte h = rw (ne_eqb byte 1 h) (reword (omega arith) refl (no_text page))
