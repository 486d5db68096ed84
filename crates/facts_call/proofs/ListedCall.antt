-- The listing's call: what is lent is what it is given, the tables that it leaves have n rows, and the text written of its answer is the call's.
-- Assumes nothing.
use mathlib.Core.Path.{◌≡◌, ap, ◌∙◌}
use mathlib.Core.List.{List}
use mathlib.Core.Option.{Option, some}
use Prim.Native.Nat.{ℕ, ◌≤◌}
use native.Mathlib.Omega.{arith}
use lib.ListN.{length, replicate}
use Rattle.model.specs.Charges.{fresh}
use Rattle.model.specs.Sheet.{code_count}
use Rattle.model.specs.Call.{Lent, Table, Result, table, scratch, lent, table_of, call_result, call, analyzed}
use Rattle.model.specs.Listing.{fact_text, call_lines, listing_table, listing_lent}
use Rattle.model.specs.declared.Counts.{Counts}
use Rattle.model.specs.declared.VerifierResources.{VerifierResources}
use Rattle.model.specs.declared.AnalysisKind.{AnalysisKind}
use Rattle.model.specs.declared.AnalysisKind.TheVariants.{Constant, IndexCheck, Container}
use Rattle.model.specs.declared.Answer.{Answer}
use Rattle.model.specs.declared.Answer.TheVariants.{Analyzed}
use Rattle.sheet_layouts.specs.Classes.{Classes}
use Rattle.std.specs.Borrow.{MutBor}
use Rattle.text_lines.specs.Page.{Begun, HasRoom}
use Rattle.text_lines.specs.Text.{ShowsText}
use Rattle.text_lines.specs.declared.page.Page.{Page}
use Rattle.text_facts.specs.Text.{fact_text_by}
use Rattle.text_facts.proofs.FactTexts.{text_by_lem}
use Rattle.text_listing.specs.Answer.{Listable, TablesListable, choose, text_by}
use Rattle.text_listing.proofs.AnswerText.{answer_listed, answer_listable}

-- a table of the arrays that are lent
abbrev zeros : Table
zeros = table (replicate 32 0) (replicate 256 0) (replicate 8192 0) (replicate 8192 0)

-- a call with a fresh budget on these arrays
pub listing_call : (sheet : List ℕ) {budget : VerifierResources} {x : Option Result} → budget ≡ fresh
    → x ≡ analyzed sheet budget (lent zeros zeros zeros (scratch (replicate 4096 0) (replicate 4096 0) (replicate 32 0) (replicate 32 0) (replicate 16640 0)))
    → x ≡ analyzed sheet fresh listing_lent
unfolding listing_lent listing_table
listing_call sheet p e = e ∙ ap (λ (b : VerifierResources). analyzed sheet b listing_lent) p

-- all of a buffer is free on a page that is begun
pub roomy : {most : ℕ} {out : MutBor (List ℕ)} {page : Page} → Begun 0 out page → most ≤ length out.now → HasRoom most page
roomy {most} b h = rw (b.place, b.bytes) (omega (arith, h))

module _ (sheet : List ℕ) {n : ℕ} (is : n ≡ code_count sheet) (r : Answer) (after : Lent) (ended : some (call_result r after) ≡ analyzed sheet fresh listing_lent) where
  -- the tables that the call left have n rows
  call_listable : (which : AnalysisKind) (constant index container : Counts) (left : VerifierResources) → r ≡ Analyzed constant index container left
      → Listable n (choose which constant index container) (table_of after which)
  call_listable which constant index container left e = rw is (answer_listable sheet fresh listing_lent r after ended constant index container left e which)

  pub call_tables : length after.constants.slots ≤ 32 → length after.index.slots ≤ 32 → length after.containers.slots ≤ 32
      → TablesListable r n after.constants after.index after.containers
  unfolding table_of
  call_tables a b c = record {
    listable_constant = call_listable Constant;
    listable_index = call_listable IndexCheck;
    listable_container = call_listable Container;
    few_constant = a;
    few_index = b;
    few_container = c;
  }

  -- the text by classes is the call's
  pub call_shown : {classes : List ℕ} (c : Classes sheet classes) {old new : List ℕ} {next : ℕ}
      → ShowsText (some (text_by (λ which. fact_text_by which classes) n r after.constants after.index after.containers)) old next new
      → ShowsText (call_lines sheet (call sheet fresh listing_lent)) old next new
  unfolding text_by
  call_shown c {old} {new} {next} w =
      let v : ShowsText (some (text_by (λ which. fact_text which sheet) (code_count sheet) r after.constants after.index after.containers)) old next new =
      rw (← text_by_lem c Constant, ← text_by_lem c IndexCheck, ← text_by_lem c Container, ← is) w in
      record { within = v.within; front = answer_listed sheet fresh listing_lent r after ended ∙ v.front; rest = v.rest }
