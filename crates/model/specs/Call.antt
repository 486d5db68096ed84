-- The whole call: what it answers, and what every lent buffer holds after it.
-- Assumes nothing.
use Rattle.std.specs.Prelude.{Bool, true, false, ◌&&◌, ◌||◌, List, [], ◌∷◌, ◌++◌, ℕ, ◌+◌, ◌*◌, ◌-◌, leb, eqb, length, replicate}
use Rattle.std.proofs.Math.Option.{Option, none, some}
use Rattle.model.specs.Sheet.{code_count, local_slots, question_number, sheet_refusal, sheet_compute}
use Rattle.model.specs.Charges.{Refusal, over_budget, no_room, Spent, ok, stop, unfinished}
use Rattle.model.specs.Analyses.{Analysed, Facts, analyses, analyses_compute}
use Rattle.model.specs.Fact.{kind, value}
use Rattle.model.specs.Tables.{present_bytes, cells, tables_compute}
use Rattle.model.specs.declared.VerifierResources.{VerifierResources}
use Rattle.model.specs.declared.Question.{Question}
use Rattle.model.specs.declared.Question.TheVariants.{ClosureRoom}
use Rattle.model.specs.declared.AnalysisKind.{AnalysisKind}
use Rattle.model.specs.declared.AnalysisKind.TheVariants.{Constant, IndexCheck, Container}
use Rattle.model.specs.declared.Counts.{Counts}
use Rattle.model.specs.declared.Answer.{Answer}
use Rattle.model.specs.declared.Answer.TheVariants.{Analyzed, Invalid, OverBudget, NoRoom}

-- ---- the lent memory

-- The output of one analysis: "slots (16-bit), present bytes .., and n × s kind bytes and 64-bit values".
pub record Table : Type 0 where
  pub slots : List ℕ
  pub present : List ℕ
  pub kinds : List ℕ
  pub values : List ℕ

-- The outputs, and the scratch that the analyses share: "the marks and the closure's stack", "the row scratch" (kinds and values), "the work list".
pub record Lent : Type 0 where
  pub constants : Table
  pub index : Table
  pub containers : Table
  pub marks : List ℕ
  pub stack : List ℕ
  pub row_kinds : List ℕ
  pub row_values : List ℕ
  pub work_list : List ℕ

-- The scratch by itself.
pub record Scratch : Type 0 where
  pub marks : List ℕ
  pub stack : List ℕ
  pub row_kinds : List ℕ
  pub row_values : List ℕ
  pub work_list : List ℕ

-- the output of one analysis, from its four slices
abbrev pub table : List ℕ → List ℕ → List ℕ → List ℕ → Table
table slots present kinds values = record { slots = slots; present = present; kinds = kinds; values = values }

-- the scratch, from its five slices
abbrev pub scratch : List ℕ → List ℕ → List ℕ → List ℕ → List ℕ → Scratch
scratch marks stack row_kinds row_values work_list = record { marks = marks; stack = stack; row_kinds = row_kinds; row_values = row_values; work_list = work_list }

-- all that is lent, from the three outputs and the scratch
abbrev pub lent : Table → Table → Table → Scratch → Lent
lent constants index containers w = record {
  constants = constants;
  index = index;
  containers = containers;
  marks = w.marks;
  stack = w.stack;
  row_kinds = w.row_kinds;
  row_values = w.row_values;
  work_list = w.work_list;
}

-- the output of an analysis
unfoldable pub table_of : Lent → AnalysisKind → Table
table_of lent Constant = lent.constants
table_of lent IndexCheck = lent.index
table_of lent Container = lent.containers

-- ---- questions 6 to 8

-- "6. Have the marks and the closure's stack at least L entries each?"
unfoldable pub closure_room : List ℕ → Lent → Bool
closure_room sheet lent = leb (local_slots sheet) (length lent.marks) && leb (local_slots sheet) (length lent.stack)

-- "with s and n above zero, the work list n × (1 + 2 × s)"
unfoldable pub work_list_room : ℕ → ℕ → ℕ → Bool
work_list_room n s room = eqb n 0 || eqb s 0 || leb (n * (1 + 2 * s)) room

-- "8. Are slots and the row scratch at least s long, present n, kinds and values n × s, and .. the work list n × (1 + 2 × s)?"
unfoldable pub room_for : ℕ → Table → List ℕ → List ℕ → List ℕ → ℕ → Bool
room_for n table row_kinds row_values work_list s =
    leb s (length table.slots) && leb s (length row_kinds) && leb s (length row_values) && leb n (length table.present) && leb (n * s) (length table.kinds)
    && leb (n * s) (length table.values) && work_list_room n s (length work_list)

-- question 8 of an analysis, with its own output and the shared scratch
unfoldable pub table_room : List ℕ → Lent → AnalysisKind → ℕ → Bool
table_room sheet lent which s = room_for (code_count sheet) (table_of lent which) lent.row_kinds lent.row_values lent.work_list s

-- ---- the call

-- How a call ends: refused by 1 to 6, with that question; by 7 or 8, with the budget left; or with the facts and the budget left.
pub data CallEnd : Type 0 where
  kept : Question → CallEnd
  cleared : Refusal → VerifierResources → CallEnd
  completed : Facts → VerifierResources → CallEnd

-- "After 7 and 8 .. the budget is what the covered charges left." None where a loop's fuel was too little: `call_ends` says that there is no such call.
unfoldable pub call_end : Spent Facts → Option CallEnd
call_end (ok facts left) = some (completed facts left)
call_end (stop refusal left) = some (cleared refusal left)
call_end unfinished = none

-- the charges and the three analyses, or 6
unfoldable pub after_six : Bool → List ℕ → VerifierResources → Lent → Option CallEnd
after_six true sheet budget lent = call_end (analyses sheet (table_room sheet lent) budget)
after_six false sheet budget lent = some (kept ClosureRoom)

-- question 6, or the first of 1 to 5 that refuses
unfoldable pub after_five : Option Question → List ℕ → VerifierResources → Lent → Option CallEnd
after_five none sheet budget lent = after_six (closure_room sheet lent) sheet budget lent
after_five (some question) sheet budget lent = some (kept question)

-- "Questions, in order"
unfoldable pub call : List ℕ → VerifierResources → Lent → Option CallEnd
call sheet budget lent = after_five (sheet_refusal sheet) sheet budget lent

-- ---- its answer

-- "s and the pop count of each analysis"
unfoldable pub counts : Analysed → Counts
counts a = record { tracked = length a.slots; pops = a.pops }

-- "answers s and the pop count of each analysis and the budget"; "After 1 to 6 and 9 .. the budget stays."
unfoldable pub answer : VerifierResources → CallEnd → Answer
answer budget (kept question) = Invalid question budget
answer budget (cleared (over_budget stage requested remaining) left) = OverBudget stage requested remaining left
answer budget (cleared no_room left) = NoRoom left
answer budget (completed facts left) = Analyzed (counts facts.constants) (counts facts.index) (counts facts.containers) left

-- "this paper's number and values for each of its cases", of an answer: its number, and its values in three groups, each empty where the case has none.
pub record AnswerNumbered : Type 0 where
  pub number : ℕ
  -- "s and the pop count of each analysis", after 0
  pub counted : List ℕ
  -- "the budget", of every answer
  pub budget : List ℕ
  -- "stage (1 to 5 in charge order), requested, remaining", after 7
  pub refused : List ℕ

-- s and the pop count of one analysis
unfoldable pub counts_given : Counts → List ℕ
counts_given c = c.tracked ∷ c.pops ∷ []

-- "bytes and work"
unfoldable pub resources : VerifierResources → List ℕ
resources left = left.bytes ∷ left.work ∷ []

-- 0; the number of the question, 1 to 6; 7; 8
unfoldable pub answer_numbered : Answer → AnswerNumbered
answer_numbered (Analyzed constant index container left) =
    record { number = 0; counted = counts_given constant ++ counts_given index ++ counts_given container; budget = resources left; refused = [] }
answer_numbered (Invalid question left) = record { number = question_number question; counted = []; budget = resources left; refused = [] }
answer_numbered (OverBudget stage requested remaining left) =
    record { number = 7; counted = []; budget = resources left; refused = stage ∷ requested ∷ remaining ∷ [] }
answer_numbered (NoRoom left) = record { number = 8; counted = []; budget = resources left; refused = [] }

-- ---- what the lent memory holds afterwards

-- "Tables": those of one analysis
unfoldable pub tables : Analysed → Table
tables a = record {
  slots = a.slots;
  present = present_bytes a.rows;
  kinds = cells kind (length a.slots) a.rows;
  values = cells value (length a.slots) a.rows;
}

-- as many zeros as there were entries
unfoldable pub zeros : List ℕ → List ℕ
zeros old = replicate (length old) 0

-- a table at the front, and "unused output zero"
unfoldable pub filled : List ℕ → List ℕ → List ℕ
filled table old = table ++ replicate (length old - length table) 0

-- an output that is all zero
unfoldable pub zero_table : Table → Table
zero_table old = record { slots = zeros old.slots; present = zeros old.present; kinds = zeros old.kinds; values = zeros old.values }

-- an output with the tables of an analysis in it
unfoldable pub filled_table : Table → Table → Table
filled_table new old = record {
  slots = filled new.slots old.slots;
  present = filled new.present old.present;
  kinds = filled new.kinds old.kinds;
  values = filled new.values old.values;
}

-- all that is lent, with these outputs and the scratch zero
unfoldable pub scratch_zero : Table → Table → Table → Lent → Lent
scratch_zero constants index containers old = record {
  constants = constants;
  index = index;
  containers = containers;
  marks = zeros old.marks;
  stack = zeros old.stack;
  row_kinds = zeros old.row_kinds;
  row_values = zeros old.row_values;
  work_list = zeros old.work_list;
}

-- "After 1 to 6 and 9 nothing lent changes". "After 7 and 8 all lent output and scratch is zero". "Success leaves scratch and unused output zero".
unfoldable pub lent_after : CallEnd → Lent → Lent
lent_after (kept question) old = old
lent_after (cleared refusal left) old = scratch_zero (zero_table old.constants) (zero_table old.index) (zero_table old.containers) old
lent_after (completed facts left) old =
    scratch_zero (filled_table (tables facts.constants) old.constants) (filled_table (tables facts.index) old.index)
    (filled_table (tables facts.containers) old.containers) old

-- What a call leaves: its answer, with the number and values of document 01, and all that was lent.
pub record Result : Type 0 where
  pub answered : Answer
  pub numbered : AnswerNumbered
  pub lent : Lent

-- a result, from the answer and what is lent
unfoldable pub call_result : Answer → Lent → Result
call_result answered lent = record { answered = answered; numbered = answer_numbered answered; lent = lent }

-- what the end of a call leaves
unfoldable pub result_of : VerifierResources → Lent → Option CallEnd → Option Result
result_of budget lent none = none
result_of budget lent (some end) = some (call_result (answer budget end) (lent_after end lent))

-- the call, as the promise of `analyze` states it
unfoldable pub analyzed : List ℕ → VerifierResources → Lent → Option Result
analyzed sheet budget lent = result_of budget lent (call sheet budget lent)

unfoldable pub call_compute : Unit {0}
unfolding sheet_compute analyses_compute tables_compute
    table_of closure_room work_list_room room_for table_room call_end after_six after_five call counts answer counts_given resources answer_numbered
    tables zeros filled zero_table filled_table scratch_zero lent_after call_result result_of analyzed
call_compute = tt
