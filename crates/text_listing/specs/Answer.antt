-- What is written of a call's answer and of the tables that it left.
-- Assumes nothing.
use Rattle.std.specs.Prelude.{◌≡◌, List, [], ◌++◌, ℕ, ◌*◌, ◌≤◌, length}
use Rattle.model.specs.Sheet.{code_count, question_number}
use Rattle.model.specs.Call.{Table, Lent}
use Rattle.model.specs.Fact.{Fact}
use Rattle.model.specs.Listing.{fact_text, left_line, refused_line, too_large}
use Rattle.model.specs.declared.Counts.{Counts}
use Rattle.model.specs.declared.VerifierResources.{VerifierResources}
use Rattle.model.specs.declared.AnalysisKind.{AnalysisKind}
use Rattle.model.specs.declared.AnalysisKind.TheVariants.{Constant, IndexCheck, Container}
use Rattle.model.specs.declared.Answer.{Answer}
use Rattle.model.specs.declared.Answer.TheVariants.{Analyzed, Invalid, OverBudget, NoRoom}
use Rattle.text_listing.specs.Rows.{printed_analysis}

-- a table that is at least as long as n rows of s cells
pub record Listable (n : ℕ) (c : Counts) (table : Table) : Type 0 where
  pub slots : c.tracked ≤ length table.slots
  pub present : n ≤ length table.present
  pub kinds : n * c.tracked ≤ length table.kinds
  pub values : n * c.tracked ≤ length table.values

-- the one of an analysis, of three
unfoldable pub choose : AnalysisKind → Counts → Counts → Counts → Counts
choose Constant constant index container = constant
choose IndexCheck constant index container = index
choose Container constant index container = container

-- a table that has room for the analysis, where the answer has facts
abbrev pub AnswerListable : AnalysisKind → Answer → ℕ → Table → Type 0
AnswerListable which answer n table =
    (constant index container : Counts) (left : VerifierResources) → answer ≡ Analyzed constant index container left → Listable n (choose which constant index container) table

-- the lines of an analysis of n instructions: none of a call that was refused
unfoldable pub answer_part : AnalysisKind → (Fact → List ℕ) → ℕ → Answer → Table → List ℕ
answer_part which text n (Analyzed constant index container left) table = printed_analysis which text n (choose which constant index container) table
answer_part which text n (Invalid question left) table = []
answer_part which text n (OverBudget stage requested remaining left) table = []
answer_part which text n (NoRoom left) table = []

-- the lines of an analysis of a sheet
abbrev pub sheet_part : AnalysisKind → List ℕ → Answer → Table → List ℕ
sheet_part which sheet answer table = answer_part which (fact_text which sheet) (code_count sheet) answer table

-- the last line
unfoldable pub last_line : Answer → List ℕ
last_line (Analyzed constant index container left) = left_line left
last_line (Invalid question left) = refused_line (question_number question)
last_line (OverBudget stage requested remaining left) = refused_line 7
last_line (NoRoom left) = too_large

-- the three analyses and the last line, each fact as a text gives it
unfoldable pub text_by : (AnalysisKind → Fact → List ℕ) → ℕ → Answer → Table → Table → Table → List ℕ
text_by text n answer constants index containers =
    answer_part Constant (text Constant) n answer constants ++ answer_part IndexCheck (text IndexCheck) n answer index ++ answer_part Container (text Container) n answer containers
    ++ last_line answer

-- the three analyses and the last line
abbrev pub answer_text : List ℕ → Answer → Lent → List ℕ
answer_text sheet answer lent = text_by (λ which. fact_text which sheet) (code_count sheet) answer lent.constants lent.index lent.containers

-- tables that have room for their analyses, with at most 32 slots
pub record TablesListable (answer : Answer) (n : ℕ) (constants index containers : Table) : Type 0 where
  pub listable_constant : AnswerListable Constant answer n constants
  pub listable_index : AnswerListable IndexCheck answer n index
  pub listable_container : AnswerListable Container answer n containers
  pub few_constant : length constants.slots ≤ 32
  pub few_index : length index.slots ≤ 32
  pub few_container : length containers.slots ≤ 32
