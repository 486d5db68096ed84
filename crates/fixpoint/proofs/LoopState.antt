-- The loop's state between two turns (`Running`) and inside one (`Taken`), and how it goes on.
-- Assumes nothing.
use mathlib.Core.Path.{◌≡◌, refl, sym, ap, ◌∙◌}
use mathlib.Core.List.Memᴰ.{head}
use mathlib.Core.List.{List, [], ◌∷◌, ◌++◌}
use mathlib.Core.Option.{none, some}
use Prim.Native.Nat.{ℕ, zero, suc, ◌+◌, ◌*◌, ◌-◌, ◌≤◌, ◌<◌}
use native.Mathlib.Nat.{zero-mul}
use native.Mathlib.Omega.{arith}
use lib.ListN.{length, get_or, set, replicate, replicate-append-replicate}
use Rattle.model.specs.Call.{zeros}
use Rattle.model.specs.Fact.{Fact, kind, value, Row}
use Rattle.model.specs.Run.{Analysis, State, finished, overdrawn, row_at, merged, carry, popped, bound, start, run}
use Rattle.model.specs.Tables.{present_byte, present_bytes, row_cells, cells, TableSlices, table_slices, RowsLie}
use Rattle.model.specs.Demand.{Lawful, Present, Visited, begun, then}
use Rattle.finality.proofs.Cells.{length_cells, length_present}
use Rattle.finality.proofs.Steps.{step_empty, step_refused, step_next}
use Rattle.finality.proofs.Invariant.{Good, none_some, row_at-replicate}
use Rattle.finality.proofs.Final.{visited_good}
use Rattle.finality.proofs.Fuel.{run_is}
use Rattle.fixpoint_list.specs.Listed.{Listed, entered}
use Rattle.fixpoint_list.proofs.Listed.{listed_empty, listed_take}
use Rattle.fixpoint_step.specs.News.{rows_visited, rows_after, news_of}
use Rattle.fixpoint_step.proofs.TwoSuccessors.{visits_parts}
use Rattle.fixpoint.specs.Turn.{StateLies, Running}
use Rattle.model.proofs.Facts.{row_below}

-- ---- tables without rows

pub no_cells : (f : Fact → ℕ) (s m : ℕ) → cells f s (replicate m none) ≡ replicate (m * s) 0
unfolding cells row_cells
no_cells f s zero = rw (zero-mul s)
no_cells f s (suc m) =
    let z : s + m * s ≡ suc m * s = omega arith in
    ap (λ (l : List ℕ). replicate s 0 ++ l) (no_cells f s m) ∙ replicate-append-replicate {A = ℕ} s (m * s) 0 ∙ ap (λ (k : ℕ). replicate k 0) z

pub no_present : (m : ℕ) → present_bytes (replicate m none) ≡ replicate m 0
unfolding present_bytes present_byte
no_present zero = refl
no_present (suc m) = ap (λ (l : List ℕ). 0 ∷ l) (no_present m)

module _ (a : Analysis) (law : Lawful a) where
  open a use {n, s, successors, transfer, same, entry}

  -- what the indices of a turn need
  pub record TurnSizes (t : TableSlices) (top pops : ℕ) : Type 0 where
    pub fits : pops + top ≤ bound a
    pub present_length : length t.present ≡ n
    pub kinds_length : length t.kinds ≡ n * s
    pub values_length : length t.values ≡ n * s

  -- a good state that lies there has those sizes
  sizes : (copy : Row) (pending : List ℕ) (st : State) (t : TableSlices) (work_list : List ℕ) (top pops : ℕ) → Good a copy pending st
      → StateLies s st t work_list top → pops ≡ st.count → TurnSizes t top pops
  sizes copy pending st t work_list top pops g l e =
      let z : length st.rows ≡ n = g.size in record {
        fits = omega (arith, g.fits, l.listed.top_is);
        present_length = ap length l.rows_lie.present_are ∙ length_present st.rows ∙ z;
        kinds_length = ap length l.rows_lie.kinds_are ∙ length_cells kind s st.rows g.row_length ∙ rw z;
        values_length = ap length l.rows_lie.values_are ∙ length_cells value s st.rows g.row_length ∙ rw z;
      }

  -- ---- inside a turn: the entry p is taken, and its step is to come

  pub record Taken (left : ℕ) (t : TableSlices) (work_list : List ℕ) (top pops rest p : ℕ) : Type 0 where
    pub st : State
    pub row : Row
    pub stands : row_at st.rows p ≡ some row
    pub visited : Visited a left (carry a p (some row) st)
    pub lies : StateLies s st t work_list top
    pub count_is : pops ≡ st.count
    pub left_is : rest ≡ st.left

  -- ---- between two turns

  module _ (hn : 0 < n) (left : ℕ) where
    good : (st : State) → Visited a left st → Good a [] [] st
    good st v = visited_good a law left hn st v

    module _ (t : TableSlices) (work_list : List ℕ) (top pops rest : ℕ) (r : Running a left t work_list top pops rest) where
      pub running_sizes : TurnSizes t top pops
      running_sizes = sizes [] [] r.st t work_list top pops (good r.st r.visited) r.lies r.count_is

      -- the empty list ends the run
      pub ends_empty : 0 < s → top ≤ 0 → run a left ≡ finished r.st.rows pops rest
      ends_empty hs h =
          let e : r.st.list ≡ [] = (listed_empty r.st.list work_list top r.lies.listed h).0 in
          rw (r.count_is, r.left_is) (run_is a law left hn hs r.st (finished r.st.rows r.st.count r.st.left) r.visited (step_empty a r.st e))

      -- with zeros in the list
      pub empty_list : top ≤ 0 → work_list ≡ zeros work_list
      empty_list h = (listed_empty r.st.list work_list top r.lies.listed h).1

      -- where there is room for the bound
      module _ (room : bound a ≤ length work_list) (some_top : 0 < top) where
        -- the entry added last
        on_top : (ps : List ℕ) × (r.st.list ≡ get_or work_list (top - 1) 0 ∷ ps) × Listed ps (set work_list (top - 1) 0) (top - 1)
        on_top =
            let g : Good a [] [] r.st = good r.st r.visited in
            listed_take r.st.list work_list top r.lies.listed (omega (arith, g.fits)) some_top

        -- has a row
        entry_present : Present r.st.rows (get_or work_list (top - 1) 0)
        entry_present = (good r.st r.visited).open_rows (get_or work_list (top - 1) 0) (rw on_top.1 (head refl))

        -- so it is an instruction
        pub entry_below : get_or work_list (top - 1) 0 < n
        entry_below =
            let x : Present r.st.rows (get_or work_list (top - 1) 0) = entry_present in
            let y : get_or work_list (top - 1) 0 < length r.st.rows = row_below r.st.rows (get_or work_list (top - 1) 0) x.0 x.1 in
            omega (arith, (good r.st r.visited).size)

        -- a refused charge ends the run
        pub ends_refused : 0 < s → rest < s → run a left ≡ overdrawn s rest
        ends_refused hs low =
            let taken = on_top in
            rw r.left_is (run_is a law left hn hs r.st (overdrawn s r.st.left) r.visited
            (step_refused a r.st (get_or work_list (top - 1) 0) taken.0 taken.1 (omega (arith, r.left_is))))

        -- a covered one goes on with what was taken
        pub taken : s ≤ rest → Taken left t (set work_list (top - 1) 0) (top - 1) (pops + 1) (rest - s) (get_or work_list (top - 1) 0)
        unfolding popped carry
        taken enough =
            let last = on_top in
            let x = entry_present in record {
              st = popped a last.0 r.st;
              row = x.0;
              stands = x.1;
              visited = then r.visited (step_next a r.st (get_or work_list (top - 1) 0) last.0 last.1 (omega (arith, r.left_is)) x.0 x.1);
              lies = record { rows_lie = r.lies.rows_lie; listed = last.2 };
              count_is = rw r.count_is;
              left_is = rw r.left_is;
            }

  module _ (hn : 0 < n) (left : ℕ) (slices : TableSlices) (work_list : List ℕ) (top pops rest p : ℕ) (t : Taken left slices work_list top pops rest p) where
    -- the successors that have news
    abbrev pub had_news : List ℕ
    had_news = news_of same (transfer p t.row) (successors p) t.st.rows

    -- the state behind the step: its rows, and its list with what had news
    behind : carry a p (some t.row) t.st
        ≡ record { rows = rows_after same (transfer p t.row) (successors p) t.st.rows; list = entered had_news t.st.list; count = t.st.count; left = t.st.left }
    unfolding carry
    behind = visits_parts same (transfer p t.row) (successors p) t.st

    -- behind the step there is room for them
    pub taken_room : pops + length (entered had_news t.st.list) ≤ bound a
    taken_room =
        let g : Good a [] [] (carry a p (some t.row) t.st) = good hn left (carry a p (some t.row) t.st) t.visited in
        let b : bound a ≡ bound a = refl in
        omega (arith, rw behind at g.fits, t.count_is)

    -- and the turn is over
    pub taken_end : (slices' : TableSlices) (work_list' : List ℕ) (top' : ℕ)
        → RowsLie s (rows_after same (transfer p t.row) (successors p) t.st.rows) slices' → Listed (entered had_news t.st.list) work_list' top'
        → Running a left slices' work_list' top' pops rest
    taken_end slices' work_list' top' l w = record {
      st = record { rows = rows_after same (transfer p t.row) (successors p) t.st.rows; list = entered had_news t.st.list; count = t.st.count; left = t.st.left };
      visited = rw behind at t.visited;
      lies = record { rows_lie = l; listed = w };
      count_is = t.count_is;
      left_is = t.left_is;
    }

  -- ---- the start

  -- no row lies there yet
  pub none_lie : RowsLie s (replicate n none) (table_slices (replicate n 0) (replicate (n * s) 0) (replicate (n * s) 0))
  none_lie = record {
    sized = λ p r e. absurd (none_some r (sym (row_at-replicate n p) ∙ e));
    present_are = sym (no_present n);
    kinds_are = sym (no_cells kind s n);
    values_are = sym (no_cells value s n);
  }

  -- a visit of instruction 0 with the first row is the start
  first_visit : rows_visited same entry 0 (replicate n none) ≡ set (replicate n none) 0 (some entry)
  unfolding rows_visited merged
  first_visit = rw (row_at-replicate n 0)

  pub started : (left : ℕ) (t : TableSlices) (work_list : List ℕ) (top : ℕ) → RowsLie s (rows_visited same entry 0 (replicate n none)) t → Listed (0 ∷ []) work_list top
      → Running a left t work_list top 0 left
  unfolding start
  started left t work_list top l w = record {
    st = start a left;
    visited = begun refl;
    lies = record { rows_lie = rw first_visit at l; listed = w };
    count_is = refl;
    left_is = refl;
  }
