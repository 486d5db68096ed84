-- What is written of a call's answer and tables is what the listing has of the call, for every outcome.
-- Assumes nothing.
use mathlib.Core.Path.{◌≡◌, refl, sym, ap, ap₂, ◌∙◌, subst}
use mathlib.Core.List.{List, ◌++◌}
use mathlib.Core.Option.{Option, none, some}
use Prim.Native.Nat.{ℕ}
use native.Mathlib.Omega.{arith}
use Rattle.model.specs.Charges.{over_budget, no_room}
use Rattle.model.specs.Call.{Table, Lent, CallEnd, kept, cleared, completed, table_of, call, counts, answer, tables, filled_table, scratch_zero, lent_after, Result, call_result, result_of, analyzed}
use Rattle.model.specs.Fact.{Fact}
use Rattle.model.specs.Sheet.{code_count}
use Rattle.model.specs.Listing.{fact_text, analysis_lines, facts_lines, end_lines, call_lines}
use Rattle.model.specs.declared.Counts.{Counts}
use Rattle.model.specs.declared.VerifierResources.{VerifierResources}
use Rattle.model.specs.declared.AnalysisKind.{AnalysisKind}
use Rattle.model.specs.declared.AnalysisKind.TheVariants.{Constant, IndexCheck, Container}
use Rattle.model.specs.declared.Answer.{Answer}
use Rattle.model.specs.declared.Answer.TheVariants.{Analyzed}
use Rattle.lookup.specs.Run.{analysed_of}
use Rattle.lookup.proofs.AfterCall.{call_shaped}
use Rattle.text_lines.specs.Page.{Written}
use Rattle.text_lines.specs.declared.page.Page.{Page}
use Rattle.text_lines.proofs.TextWritten.{then}
use Rattle.text_listing.specs.Rows.{printed_analysis}
use Rattle.text_listing.specs.Answer.{Listable, choose, answer_part, last_line, text_by, answer_text}
use Rattle.text_listing.proofs.AnalysisLines.{analysis_is, listable}

-- ---- the end of a call, from its answer and what it left

-- the three parts and the last line, one behind the other
pub text_written : (text : AnalysisKind → Fact → List ℕ) (n : ℕ) (r : Answer) (constants index containers : Table) {old one two three new : Page}
    → Written 729161 (answer_part Constant (text Constant) n r constants) old one
    → Written 729161 (answer_part IndexCheck (text IndexCheck) n r index) one two
    → Written 729161 (answer_part Container (text Container) n r containers) two three
    → Written 47 (last_line r) three new
    → Written 2187530 (text_by text n r constants index containers) old new
unfolding text_by
text_written text n r constants index containers w v u t = then (then (then w v) u) t

module _ (sheet : List ℕ) (budget : VerifierResources) (before : Lent) where
  -- the call ended so
  record Ended (r : Answer) (after : Lent) : Type 0 where
    end : CallEnd
    is : call sheet budget before ≡ some end
    answers : answer budget end ≡ r
    leaves : lent_after end before ≡ after

  ended : (r : Answer) (after : Lent) → some (call_result r after) ≡ analyzed sheet budget before → Ended r after
  unfolding analyzed result_of call_result
  ended r after e = go (call sheet budget before) refl e
    where
      go : (end : Option CallEnd) → call sheet budget before ≡ end → some (call_result r after) ≡ result_of budget before end → Ended r after
      go none h k = let z : ◌≡◌ {A = ℕ} 0 1 = cc in absurd (omega arith)
      go (some end) h k =
          let w : call_result r after ≡ call_result (answer budget end) (lent_after end before) = cc in
          record { end = end; is = h; answers = sym (ap (λ (x : Result). x.answered) w); leaves = sym (ap (λ (x : Result). x.lent) w) }

  -- ---- its text

  text_is : (end : CallEnd) → call sheet budget before ≡ some end → answer_text sheet (answer budget end) (lent_after end before) ≡ end_lines sheet end
  unfolding text_by answer_part last_line choose answer end_lines lent_after scratch_zero facts_lines analysed_of
  text_is (kept number) e = refl
  text_is (cleared (over_budget stage requested remaining) left) e = refl
  text_is (cleared no_room left) e = refl
  text_is (completed facts left) e =
      ap₂ ◌++◌ (ap₂ ◌++◌ (ap₂ ◌++◌ (part Constant before.constants) (part IndexCheck before.index)) (part Container before.containers)) refl
    where
      part : (which : AnalysisKind) (old : Table) → printed_analysis which (fact_text which sheet) (code_count sheet) (counts (analysed_of facts which)) (filled_table (tables (analysed_of facts which)) old)
          ≡ analysis_lines which sheet (analysed_of facts which)
      part which old = let s = call_shaped sheet budget before facts left e which in analysis_is (analysed_of facts which) s.0 old which sheet s.1

  -- the text written of an answer and of what is lent is the listing's
  pub answer_listed : (r : Answer) (after : Lent) → some (call_result r after) ≡ analyzed sheet budget before → call_lines sheet (call sheet budget before) ≡ some (answer_text sheet r after)
  unfolding call_lines
  answer_listed r after e =
      let d = ended r after e in
      ap (call_lines sheet) d.is ∙ ap some (sym (text_is d.end d.is) ∙ ap₂ (answer_text sheet) d.answers d.leaves)

  -- ---- its tables

  tables_fit : (end : CallEnd) (constant index container : Counts) (left : VerifierResources) → call sheet budget before ≡ some end → answer budget end ≡ Analyzed constant index container left
      → (which : AnalysisKind) → Listable (code_count sheet) (choose which constant index container) (table_of (lent_after end before) which)
  unfolding answer choose table_of lent_after scratch_zero analysed_of
  tables_fit (kept number) constant index container left e a which = let z : ◌≡◌ {A = ℕ} 0 1 = cc in absurd (omega arith)
  tables_fit (cleared (over_budget stage requested remaining) rest) constant index container left e a which = let z : ◌≡◌ {A = ℕ} 0 1 = cc in absurd (omega arith)
  tables_fit (cleared no_room rest) constant index container left e a which = let z : ◌≡◌ {A = ℕ} 0 1 = cc in absurd (omega arith)
  tables_fit (completed facts rest) constant index container left e a which = each which
    where
      fit : (which : AnalysisKind) (c : Counts) (old : Table) → counts (analysed_of facts which) ≡ c → Listable (code_count sheet) c (filled_table (tables (analysed_of facts which)) old)
      fit which c old p =
          let s = call_shaped sheet budget before facts rest e which in
          subst (λ (x : Counts). Listable (code_count sheet) x (filled_table (tables (analysed_of facts which)) old)) p (listable (analysed_of facts which) s.0 old (code_count sheet) s.1)

      each : (which : AnalysisKind) → Listable (code_count sheet) (choose which constant index container) (table_of (lent_after (completed facts rest) before) which)
      each Constant = fit Constant constant before.constants (cc)
      each IndexCheck = fit IndexCheck index before.index (cc)
      each Container = fit Container container before.containers (cc)

  -- the tables that a call with facts left are long enough to be listed
  pub answer_listable : (r : Answer) (after : Lent) → some (call_result r after) ≡ analyzed sheet budget before → (constant index container : Counts) (left : VerifierResources)
      → r ≡ Analyzed constant index container left → (which : AnalysisKind) → Listable (code_count sheet) (choose which constant index container) (table_of after which)
  answer_listable r after e constant index container left a which =
      let d = ended r after e in
      subst (λ (x : Lent). Listable (code_count sheet) (choose which constant index container) (table_of x which)) d.leaves (tables_fit d.end constant index container left d.is (d.answers ∙ a) which)
