-- "Defined run, one for each analysis": the work list, once for any analysis.
-- Assumes nothing.
use Rattle.std.specs.Prelude.{Bool, true, false, cond, ◌||◌, List, [], ◌∷◌, ℕ, zero, suc, ◌+◌, ◌*◌, ◌-◌, leb, eqb, get_or, set, replicate}
use Rattle.std.proofs.Math.Option.{Option, none, some}
use Rattle.model.specs.Fact.{Row, row_differs, join_row, fact_compute}

-- What one analysis brings to the run.
pub record Analysis : Type 0 where
  -- "n is the number of instructions", "s of tracked slots"
  pub n : ℕ
  pub s : ℕ
  -- "Successors", in order
  pub successors : ℕ → List ℕ
  -- "Transfers": the row before an instruction to the row behind it
  pub transfer : ℕ → Row → Row
  -- whether two known facts are equal, by kind and value of each ("Layouts are equal by length and content")
  pub same : ℕ → ℕ → ℕ → ℕ → Bool
  -- instruction 0 "starts with a row of Unknown, for containers with the Parameters facts in it"
  pub entry : Row

-- "Its state: for each instruction a row of s facts or none, a list of instruction numbers" (the entry added last comes first),
-- "a count from 0, the budget" (its work units: no byte is charged inside the run).
pub record State : Type 0 where
  pub rows : List (Option Row)
  pub list : List ℕ
  pub count : ℕ
  pub left : ℕ

-- How a run ends: "The empty list ends the run: its rows are the tables, its count the pop count"; "a refused one ends it with 7", with
-- requested and remaining. `fuel_spent` says that the fuel below was too little; `Demand3` says that no run ends so.
pub data RunEnd : Type 0 where
  finished : List (Option Row) → ℕ → ℕ → RunEnd
  overdrawn : ℕ → ℕ → RunEnd
  fuel_spent : RunEnd

-- One step: on to another state, or the end.
pub data Step : Type 0 where
  next : State → Step
  ended : RunEnd → Step

-- What follows a step: `go` from the next state, or the end.
unfoldable pub and_then : (State → RunEnd) → Step → RunEnd
and_then go (next st) = go st
and_then go (ended e) = e

-- The row of instruction p, or none. There are n rows, and from n up there is none.
abbrev pub row_at : List (Option Row) → ℕ → Option Row
row_at rows p = get_or rows p none

module _ (same : ℕ → ℕ → ℕ → ℕ → Bool) where
  -- "without a row, it gets the copy; with one, the copy is joined into it slot by slot, the old fact first"
  unfoldable pub merged : Option Row → Row → Row
  merged none copy = copy
  merged (some old) copy = join_row same old copy

  -- "If the row is new or a kind or value changed"
  unfoldable pub news : Option Row → Row → Bool
  news none copy = true
  news (some old) copy = row_differs old (join_row same old copy)

  -- One successor q: it gets the copy or is joined with it, and with news "is added once, even if it is listed already".
  unfoldable pub visit : Row → ℕ → State → State
  visit copy q st = record {
    rows = set st.rows q (some (merged (row_at st.rows q) copy));
    list = cond (news (row_at st.rows q) copy) (q ∷ st.list) st.list;
    count = st.count;
    left = st.left;
  }

  -- "Then each successor in order"
  unfoldable pub visits : Row → List ℕ → State → State
  visits copy [] st = st
  visits copy (q ∷ qs) st = visits copy qs (visit copy q st)

module _ (a : Analysis) where
  open a use {n, s, successors, transfer, same, entry}

  -- "A copy of that instruction's row goes through its transfer." An entry without a row is passed over, as in the Rust; there is none.
  unfoldable pub carry : ℕ → Option Row → State → State
  carry p none st = st
  carry p (some r) st = visits same (transfer p r) (successors p) st

  -- The state with `ps` left of the list, one more counted and s work units charged.
  unfoldable pub popped : List ℕ → State → State
  popped ps st = record { rows = st.rows; list = ps; count = st.count + 1; left = st.left - s }

  -- The entry p is taken: its charge of s is covered, or "a refused one ends it with 7".
  unfoldable pub charged : Bool → ℕ → List ℕ → State → Step
  charged true p ps st = next (carry p (row_at st.rows p) (popped ps st))
  charged false p ps st = ended (overdrawn s st.left)

  -- "A step takes the entry added last and counts 1." "The empty list ends the run".
  unfoldable pub pop : List ℕ → State → Step
  pop [] st = ended (finished st.rows st.count st.left)
  pop (p ∷ ps) st = charged (leb s st.left) p ps st

  -- "A step": one entry is taken, or the run ends
  unfoldable pub step : State → Step
  step st = pop st.list st

  -- Step after step, at most `fuel` of them and the end.
  unfoldable pub loop : ℕ → State → RunEnd
  loop zero st = and_then (λ st'. fuel_spent) (step st)
  loop (suc fuel) st = and_then (λ st'. loop fuel st') (step st)

  -- "n × (1 + 2 × s)"
  abbrev pub bound : ℕ
  bound = n * (1 + 2 * s)

  -- "instruction 0 starts with a row .. and the list holds 0 alone"
  unfoldable pub start : ℕ → State
  start left = record { rows = set (replicate n none) 0 (some entry); list = 0 ∷ []; count = 0; left = left }

  -- The run with a given fuel from the work units left. "With s or n zero it ends at once, without rows."
  unfoldable pub run_with : ℕ → ℕ → RunEnd
  run_with fuel left = cond (eqb n 0 || eqb s 0) (finished (replicate n none) 0 left) (loop fuel (start left))

  -- the defined run: its fuel is the bound, and more changes nothing (`Demand3`)
  unfoldable pub run : ℕ → RunEnd
  run left = run_with bound left

unfoldable pub run_compute : Unit {0}
unfolding fact_compute and_then merged news visit visits carry popped charged pop step loop start run_with run
run_compute = tt
