-- `text_listing::answer_lines` meets its contract. Assumes nothing.
use mathlib.Core.Path.{◌≡◌, refl, sym, ap, ◌∙◌, subst}
use mathlib.Core.List.{List, []}
use Prim.Native.Nat.{ℕ}
use native.Mathlib.Omega.{arith}
use Rattle.model.specs.declared.Counts.{Counts}
use Rattle.model.specs.Call.{Table}
use Rattle.model.specs.Fact.{Fact}
use Rattle.model.specs.declared.AnalysisKind.{AnalysisKind}
use Rattle.model.specs.declared.VerifierResources.{VerifierResources}
use Rattle.model.specs.declared.Answer.{Answer}
use Rattle.model.specs.declared.Answer.TheVariants.{Analyzed, Invalid, OverBudget, NoRoom}
use Rattle.text_listing.specs.Rows.{printed_analysis}
use Rattle.text_listing.specs.Answer.{Listable, answer_part}
use Rattle.text_facts.specs.Text.{fact_text_by}
use Rattle.text_lines.proofs.TextWritten.{reword, no_text}
use Rattle.text_listing.proofs.answer.answer_lines.Goals as goal

none_listed : (which : AnalysisKind) (text : Fact → List ℕ) (n : ℕ) (t : Table) (r : Answer)
    → ((a b c : Counts) (l : VerifierResources) → r ≡ Analyzed a b c l → ⊥) → [] ≡ answer_part which text n r t
unfolding answer_part
none_listed which text n t (Analyzed a b c l) h = absurd (h a b c l refl)
none_listed which text n t (Invalid question left) h = refl
none_listed which text n t (OverBudget stage requested remaining left) h = refl
none_listed which text n t (NoRoom left) h = refl

pub analysis_lines-requires : goal.analysis_lines-requires
analysis_lines-requires c =
    let p = c.requires in
    (p.0, p.1, subst (λ (x : Counts). Listable c.args.n x c.args.tables.now) (sym c.counts_of-counts.ensures) (p.2 _ _ _ _ c.in-Analyzed.is), p.3)

pub returns-in-Analyzed : goal.returns-in-Analyzed
unfolding answer_part
returns-in-Analyzed c =
    let a = c.args in
    let text = fact_text_by a.printer.now.which a.printer.now.classes.now in
    reword (omega arith)
    (ap (λ (x : Counts). printed_analysis a.printer.now.which text a.n x a.tables.now) c.counts_of-counts.ensures
    ∙ sym (ap (λ (x : Answer). answer_part a.printer.now.which text a.n x a.tables.now) c.in-Analyzed.is))
    c.analysis_lines.ensures

pub returns-in_default : goal.returns-in_default
returns-in_default c =
    reword (omega arith) (none_listed c.args.printer.now.which (fact_text_by c.args.printer.now.which c.args.printer.now.classes.now) c.args.n c.args.tables.now c.args.answer c.in_default.not-Analyzed) (no_text c.args.page.now)
