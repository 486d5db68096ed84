-- What is to run, and what is left in memory for it.
-- Assumes nothing.
use Rattle.std.specs.Prelude.{Bool, false, not, ◌&&◌, List, map, ℕ, eqb, length, Result, Ok, Err}
use Rattle.budget.specs.Outcome.{Outcome}
use Rattle.budget.specs.declared.Refused.{Refused}
use Rattle.model.specs.Fact.{kind, value}
use Rattle.model.specs.Call.{zeros, filled}
use Rattle.stage_prepare.specs.Begin.{Begun}
use Rattle.stage_prepare.specs.declared.Prepared.{Prepared}

-- whether there is something to run: "With s or n zero it ends at once"
unfoldable pub something : ℕ → ℕ → Bool
something n s = not (eqb n 0) && not (eqb s 0)

-- Whether there is, how many slots are tracked, the slots and the row scratch.
pub record PrepareEnd : Type 0 where
  pub runs : Bool
  pub s : ℕ
  pub slots : List ℕ
  pub row_kinds : List ℕ
  pub row_values : List ℕ

abbrev pub prepared : Bool → ℕ → List ℕ → List ℕ → List ℕ → PrepareEnd
prepared runs s slots row_kinds row_values = record { runs = runs; s = s; slots = slots; row_kinds = row_kinds; row_values = row_values }

-- the tracked slots and the first row in the first places of what is lent, for n instructions
abbrev pub prepared_by : ℕ → List ℕ → List ℕ → List ℕ → Begun → PrepareEnd
prepared_by n slots row_kinds row_values b =
    prepared (something n (length b.slots)) (length b.slots) (filled b.slots slots) (filled (map kind b.entry) row_kinds) (filled (map value b.entry) row_values)

-- nothing to run, and zeros: after 7 and 8
abbrev pub unprepared : List ℕ → List ℕ → List ℕ → PrepareEnd
unprepared slots row_kinds row_values = prepared false 0 (zeros slots) (zeros row_kinds) (zeros row_values)

-- what the charges so far come to
abbrev pub outcome_of : Result Prepared Refused → Outcome
outcome_of (Ok p) = Ok p.left
outcome_of (Err refused) = Err refused

-- what is to run, with what is left in memory for it: nothing after a refusal
abbrev pub prepared_in : Result Prepared Refused → List ℕ → List ℕ → List ℕ → PrepareEnd
prepared_in (Ok p) slots row_kinds row_values = prepared p.runs p.s slots row_kinds row_values
prepared_in (Err refused) slots row_kinds row_values = prepared false 0 slots row_kinds row_values
