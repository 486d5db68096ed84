-- What demand 3 says of a defined run, and of its tables as they lie in memory. Words between ‘ and ’ are
-- demand 3's own.
-- Assumes nothing.
use Rattle.std.specs.Prelude.{◌≡◌, true, ◌⊎◌, ℕ, ◌+◌, ◌*◌, ◌≤◌, ◌<◌, length, get_or, replicate, take, drop}
use mathlib.Core.List.{List, map, Memᴰ}
use Rattle.std.proofs.Math.Option.{Option, none, some}
use Rattle.model.specs.Fact.{Row, kind, value, join_row}
use Rattle.model.specs.Run.{Analysis, State, RunEnd, finished, overdrawn, fuel_spent, next, ended, row_at, step, start, bound, run_with, run}
use Rattle.model.specs.Tables.{table_row}

-- What an analysis has to show of itself; nothing else is used of it.
pub record Lawful (a : Analysis) : Type 0 where
  -- "Targets outside 0..n−1 are dropped"
  pub successors_below : (p q : ℕ) → Memᴰ q (a.successors p) → q < a.n
  -- "a row of s facts"
  pub transfer_length : (p : ℕ) (r : Row) → length r ≡ a.s → length (a.transfer p r) ≡ a.s
  pub entry_length : length a.entry ≡ a.s
  -- a known fact equals itself
  pub same_self : (k v : ℕ) → a.same k v k v ≡ true

-- "Reachable are, with n above zero, instruction 0 and every successor of a reachable instruction, and no others."
pub data Reachable (a : Analysis) : ℕ → Type 0 where
  first : {q : ℕ} → q ≡ 0 → Reachable a q
  along : {p q : ℕ} → Reachable a p → Memᴰ q (a.successors p) → Reachable a q

-- "An instruction with a state is one whose row is present."
abbrev pub Present : List (Option Row) → ℕ → Type 0
Present rows p = (r : Row) × (row_at rows p ≡ some r)

-- q has a row; what p carries from its row r has s facts; ‘joining it into a successor changes no fact there, neither kind nor value’.
pub record Settled (a : Analysis) (rows : List (Option Row)) (p : ℕ) (r : Row) (q : ℕ) : Type 0 where
  pub row : Row
  pub present : row_at rows q ≡ some row
  pub carried : length (a.transfer p r) ≡ a.s
  pub unchanged : join_row a.same row (a.transfer p r) ≡ row

-- The rows that a run ends with.
pub record Final (a : Analysis) (rows : List (Option Row)) : Type 0 where
  -- ‘exactly the instructions reachable from 0 have a state’
  pub only_reachable : (p : ℕ) → Present rows p → Reachable a p
  pub all_reachable : (p : ℕ) → Reachable a p → Present rows p
  -- ‘carrying it through an instruction and joining it into a successor changes no fact there’
  pub settled : (p : ℕ) (r : Row) → row_at rows p ≡ some r → (q : ℕ) → Memᴰ q (a.successors p) → Settled a rows p r q
  pub row_length : (p : ℕ) (r : Row) → row_at rows p ≡ some r → length r ≡ a.s
  pub size : length rows ≡ a.n

-- The states that a run passes through, from the work units left at its start.
pub data Visited (a : Analysis) (left : ℕ) : State → Type 0 where
  begun : {st : State} → st ≡ start a left → Visited a left st
  then : {st st' : State} → Visited a left st → step a st ≡ next st' → Visited a left st'

-- The run without fuel: from the state st, step after step, it comes to the end e.
pub data Ends (a : Analysis) : State → RunEnd → Type 0 where
  stops : {st : State} {e : RunEnd} → step a st ≡ ended e → Ends a st e
  goes : {st st' : State} {e : RunEnd} → step a st ≡ next st' → Ends a st' e → Ends a st e

-- Demand 3 of one run, whatever n, s and the work units left.
pub record Demand3 (a : Analysis) (left : ℕ) : Type 0 where
  -- ‘every call ends’, and more fuel changes nothing
  pub ends : run a left ≡ fuel_spent → ⊥
  pub more_fuel : (fuel : ℕ) → bound a ≤ fuel → run_with a fuel left ≡ run a left
  -- ‘takes at most n × (1 + 2 × s) entries from its work list’
  pub pops : (rows : List (Option Row)) (count rest : ℕ) → run a left ≡ finished rows count rest → count ≤ bound a
  -- and in every state that the run passes through, ended by 7 or not, what was taken and what is listed are together no more
  pub list : 0 < a.n → (st : State) → Visited a left st → st.count + length st.list ≤ bound a
  -- the run with fuel is the run without
  pub fuel_free : 0 < a.n → 0 < a.s → Ends a (start a left) (run a left)
  -- ‘With n and s above zero exactly the instructions reachable from 0 have a state ..’
  pub tables : 0 < a.n → 0 < a.s → (rows : List (Option Row)) (count rest : ℕ) → run a left ≡ finished rows count rest → Final a rows
  -- each entry taken is charged s, and a refused charge takes nothing
  pub work : (rows : List (Option Row)) (count rest : ℕ) → run a left ≡ finished rows count rest → rest + count * a.s ≡ left
  pub refusal : (requested remaining : ℕ) → run a left ≡ overdrawn requested remaining → (requested ≡ a.s) × (remaining < a.s)
  -- "With s = 0 or n = 0 none is present and nothing is popped."
  pub at_once : (a.n ≡ 0) ⊎ (a.s ≡ 0) → run a left ≡ finished (replicate a.n none) 0 left

-- ---- the same of tables in memory

-- instruction p is present in a table of present bytes
abbrev pub Shows : List ℕ → ℕ → Type 0
Shows present p = get_or present p 0 ≡ 1

-- `Settled`, of the rows of p and q as parts of kinds and values; ‘neither kind nor value’ is said of the bytes themselves: what the join gives is what
-- is stored, also where a kind byte would be read as another fact
pub record SettledTable (a : Analysis) (present kinds values : List ℕ) (p q : ℕ) : Type 0 where
  pub shows : Shows present q
  pub carried : length (a.transfer p (table_row a.s kinds values p)) ≡ a.s
  pub unchanged : join_row a.same (table_row a.s kinds values q) (a.transfer p (table_row a.s kinds values p)) ≡ table_row a.s kinds values q
  pub kinds_stay : map kind (join_row a.same (table_row a.s kinds values q) (a.transfer p (table_row a.s kinds values p))) ≡ take a.s (drop (q * a.s) kinds)
  pub values_stay : map value (join_row a.same (table_row a.s kinds values q) (a.transfer p (table_row a.s kinds values p))) ≡ take a.s (drop (q * a.s) values)

-- `Final`, of present bytes, kinds and values
pub record FinalTable (a : Analysis) (present kinds values : List ℕ) : Type 0 where
  -- "present bytes (n, 0 or 1)"
  pub zero_or_one : (p : ℕ) → (get_or present p 0 ≡ 0) ⊎ (get_or present p 0 ≡ 1)
  pub only_reachable : (p : ℕ) → Shows present p → Reachable a p
  pub all_reachable : (p : ℕ) → Reachable a p → Shows present p
  pub settled : (p : ℕ) → Shows present p → (q : ℕ) → Memᴰ q (a.successors p) → SettledTable a present kinds values p q
  pub row_length : (p : ℕ) → Shows present p → length (table_row a.s kinds values p) ≡ a.s
