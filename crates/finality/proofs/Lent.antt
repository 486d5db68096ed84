-- Demand 3 of what a caller holds after a call: its answer and the lent tables.
-- Assumes nothing.
use mathlib.Core.Path.{◌≡◌, refl, sym, ap, ◌∙◌, subst}
use mathlib.Core.List.{List}
use mathlib.Core.Option.{Option, none, some}
use Prim.Native.Nat.{ℕ}
use native.Mathlib.Omega.{arith}
use lib.Seq.{take-append_seam}
use Rattle.model.specs.Charges.{over_budget, no_room}
use Rattle.model.specs.Fact.{Fact}
use Rattle.model.specs.Analyses.{Analysed, Facts, analysis}
use Rattle.model.specs.Call.{Table, Lent, CallEnd, kept, cleared, completed, call, counts, answer, tables, filled, filled_table, scratch_zero, lent_after, Result, call_result, result_of, analyzed}
use Rattle.model.specs.CallDemand.{Demanded, TableDemand, LentDemand}
use Rattle.model.specs.declared.Counts.{Counts}
use Rattle.model.specs.declared.Answer.TheVariants.{Analyzed}
use Rattle.model.specs.declared.VerifierResources.{VerifierResources}
use Rattle.model.specs.declared.AnalysisKind.{AnalysisKind}
use Rattle.finality.proofs.Call.{call_demand}

table_demand : (which : AnalysisKind) (sheet : List ℕ) (length_fact : ℕ → Fact) (a : Analysed) (old : Table) (given : Counts) (table : Table)
    → Demanded which sheet length_fact a → counts a ≡ given → filled_table (tables a) old ≡ table → TableDemand which sheet length_fact a given table
unfolding counts analysis tables filled_table filled
table_demand which sheet length_fact a old given table d p q =
    subst (λ (x : Counts). TableDemand which sheet length_fact a x table) p
    (subst (λ (y : Table). TableDemand which sheet length_fact a (counts a) y) q (record {
      tracked = refl;
      slots = take-append_seam a.slots _;
      pops = d.pops;
      final = λ hn hs. d.memory old hn hs;
    }))

module _ (sheet : List ℕ) (budget : VerifierResources) (before : Lent) (constant index container : Counts) (left : VerifierResources) (after : Lent) where
  lent_demand : (facts : Facts) → call sheet budget before ≡ some (completed facts left)
      → counts facts.constants ≡ constant → counts facts.index ≡ index → counts facts.containers ≡ container
      → lent_after (completed facts left) before ≡ after → LentDemand sheet budget before constant index container left after
  unfolding lent_after scratch_zero
  lent_demand facts e p q r w =
      let d = call_demand sheet budget before facts left e in record {
        facts = facts;
        ended = e;
        constants_final = table_demand _ sheet _ facts.constants before.constants constant after.constants d.constants p (ap (λ (x : Lent). x.constants) w);
        index_final = table_demand _ sheet _ facts.index before.index index after.index d.index q (ap (λ (x : Lent). x.index) w);
        containers_final = table_demand _ sheet _ facts.containers before.containers container after.containers d.containers r (ap (λ (x : Lent). x.containers) w);
      }

  from_end : (end : CallEnd) → call sheet budget before ≡ some end → answer budget end ≡ Analyzed constant index container left → lent_after end before ≡ after
      → LentDemand sheet budget before constant index container left after
  unfolding answer
  from_end (kept question) e a w = let z : ◌≡◌ {A = ℕ} 0 1 = cc in absurd (omega arith)
  from_end (cleared (over_budget stage requested remaining) rest) e a w = let z : ◌≡◌ {A = ℕ} 0 1 = cc in absurd (omega arith)
  from_end (cleared no_room rest) e a w = let z : ◌≡◌ {A = ℕ} 0 1 = cc in absurd (omega arith)
  from_end (completed facts rest) e a w =
      let l : rest ≡ left = cc in
      lent_demand facts (e ∙ ap (λ (x : VerifierResources). some (completed facts x)) l) (cc) (cc) (cc) (ap (λ (x : VerifierResources). lent_after (completed facts x) before) (sym l) ∙ w)

  -- An answer with facts that a call gave, and the memory that it left, meet demand 3.
  pub analyzed_demand : some (call_result (Analyzed constant index container left) after) ≡ analyzed sheet budget before
      → LentDemand sheet budget before constant index container left after
  unfolding analyzed result_of call_result
  analyzed_demand e = go (call sheet budget before) refl e
    where
      go : (end : Option CallEnd) → call sheet budget before ≡ end → some (call_result (Analyzed constant index container left) after) ≡ result_of budget before end
          → LentDemand sheet budget before constant index container left after
      go none h k = let z : ◌≡◌ {A = ℕ} 0 1 = cc in absurd (omega arith)
      go (some end) h k =
          let w : call_result (Analyzed constant index container left) after ≡ call_result (answer budget end) (lent_after end before) = cc in
          from_end end h (sym (ap (λ (x : Result). x.answered) w)) (sym (ap (λ (x : Result). x.lent) w))
