-- What the loop of a closure asks and leaves.
-- Assumes nothing.
use Rattle.std.specs.Prelude.{◌≡◌, ℕ, ◌≤◌, List, length}
use Rattle.std.proofs.Math.Option.{some}
use Rattle.model.specs.Sheet.{local_slots}
use Rattle.model.specs.Closure.{Marked, seeded, expand}
use Rattle.model.specs.Call.{zeros}
use Rattle.model.specs.declared.AnalysisKind.{AnalysisKind}
use Rattle.model.specs.declared.VerifierResources.{VerifierResources}
use Rattle.budget.specs.Outcome.{Outcome, leaves, leaves_of}

-- L marks and a stack of at least L entries, all zero
pub record MarksZero (sheet marks stack : List ℕ) : Type 0 where
  pub wide : length marks ≡ local_slots sheet
  pub deep : local_slots sheet ≤ length stack
  pub no_marks : marks ≡ zeros marks
  pub no_entries : stack ≡ zeros stack

-- the marks of the closure, or zeros after a refusal; the stack is zero again
pub record ExpandEnsures (which : AnalysisKind) (sheet : List ℕ) (budget : VerifierResources) (marks stack : List ℕ) (outcome : Outcome) (marks' stack' : List ℕ) : Type 0 where
  pub closes : some (leaves outcome marks') ≡ leaves_of (λ (m : Marked). m.marks) (zeros marks) (expand which sheet (local_slots sheet) (seeded which sheet) budget)
  pub no_entries : stack' ≡ zeros stack
