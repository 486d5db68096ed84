-- Readings of document 01 that the definitions shut out, each by a short general law.
-- Assumes nothing.
use mathlib.Core.Path.{◌≡◌, refl, sym, ap, ◌∙◌}
use mathlib.Core.Bool.{Bool, true, false}
use mathlib.Core.List.{List, [], ◌∷◌}
use mathlib.Core.Option.{Option, none, some}
use Prim.Native.Nat.{ℕ, zero, suc, ◌+◌, ◌*◌, ◌/◌, ◌%◌, ◌^◌, ◌≤◌, ◌<◌}
use native.Mathlib.Nat.{mod-lt}
use native.Mathlib.Omega.{arith}
use lib.Dec.{ltb, eqb}
use lib.ListN.{length, get_or, set}
use lib.Seq.{get_or-set_same}
use borrow.Author.Tests.{le-leb, lt-leb, lt-ltb, le-ltb}
use Rattle.model.specs.Count.{sum}
use Rattle.model.specs.Sheet.{instruction, note_kind, layout, param_width, param_count}
use Rattle.model.specs.Opcode as O
use Rattle.model.specs.Opcode.{select}
use Rattle.model.specs.Fact.{Fact, unknown, conflict, known, value, Row, equal_numbers, equal_content, equal_layouts, equal_containers, join, join_row}
use Rattle.model.specs.Written.{in_range, slot_layout_note, has_elements, writes, written_by, written}
use Rattle.model.specs.Charges.{over_budget, Spent, ok, stop, unfinished, Metered, give, continue, ◌>>=◌, ◌>>◌, in_stage, work_charged, charge_work, spend_work}
use Rattle.model.specs.Dependencies.{edges_to}
use Rattle.model.specs.Closure.{Marked, marked, mark, stage_number, take_slot}
use Rattle.model.specs.Transfer.{fact_for, target, u64_fact, fold_binary, shifted, shl, fold, iter_next, iter_next_rule, container_fact, put}
use Rattle.model.specs.Parameters.{param_start, param_fact, seed_param, seed_params, param_row, charge_layouts, charge_instruction_facts}
use Rattle.model.specs.Run.{Analysis, State, next, row_at, merged, news, visit, carry, popped, charged, pop, step}
use Rattle.model.specs.Analyses.{unknown_row, container_row}
use Rattle.std.specs.Prelude.{Ok, Err}
use Rattle.model.specs.Lookup.{cell_found, none_found, damaged, slot_fact_numbered, reachability_numbered}
use Rattle.model.specs.declared.VerifierResources.{VerifierResources}
use Rattle.model.specs.declared.Instruction.{Instruction}
use Rattle.model.specs.declared.AnalysisKind.{AnalysisKind}
use Rattle.model.proofs.Equality.{eqb_self, content_self, content_path}

-- ---- the work list

-- "A first-in-first-out list": the entry added last is taken next.
pub last_in_first_out : (a : Analysis) (copy : Row) (q : ℕ) (st : State) → news a.same (row_at st.rows q) copy ≡ true → a.s ≤ st.left
    → step a (visit a.same copy q st)
    ≡ next (carry a q (row_at (visit a.same copy q st).rows q) (popped a st.list (visit a.same copy q st)))
unfolding step pop charged visit
last_in_first_out a copy q st e h = rw (e, le-leb a.s st.left h)

-- "or joining all predecessors together": each copy is joined into the row as it stands, the row first.
pub joined_in_turn : (same : ℕ → ℕ → ℕ → ℕ → Bool) (c d : Row) (q : ℕ) (st : State) (old : Row) → row_at st.rows q ≡ some old → q < length st.rows
    → row_at (visit same d q (visit same c q st)).rows q ≡ some (join_row same (join_row same old c) d)
unfolding visit merged
joined_in_turn same c d q st old e h =
    rw (e, get_or-set_same st.rows q (some (join_row same old c)) none h)
    (get_or-set_same (set st.rows q (some (join_row same old c))) q (some (join_row same (join_row same old c) d)) none (rw (length_of st.rows) h))
  where
    length_of : (rows : List (Option Row)) → length (set rows q (some (join_row same old c))) ≡ length rows
    length_of rows = simp lib.ListN.length-set

-- ---- equal facts

layouts_equal : (sheet : List ℕ) (i j : ℕ) → layout sheet i ≡ layout sheet j → equal_layouts sheet i j ≡ true
unfolding equal_layouts
layouts_equal sheet i j p = sym (ap (equal_content (layout sheet i)) p) ∙ content_self (layout sheet i)

-- "Layouts compared by number": containers of one kind whose layouts have the same content are equal, whatever the numbers.
pub equal_by_content : (sheet : List ℕ) (k v w : ℕ) → layout sheet (v / 65536) ≡ layout sheet (w / 65536) → layout sheet (v % 65536) ≡ layout sheet (w % 65536)
    → equal_containers sheet k v k w ≡ true
unfolding equal_containers
equal_by_content sheet k v w p q = rw (eqb_self k, layouts_equal sheet (v / 65536) (w / 65536) p, layouts_equal sheet (v % 65536) (w % 65536) q)

-- and only those are: other content gives Conflict
pub equal_only_by_content : (sheet : List ℕ) (i j : ℕ) → equal_layouts sheet i j ≡ true → layout sheet i ≡ layout sheet j
unfolding equal_layouts
equal_only_by_content sheet i j e = content_path (layout sheet i) (layout sheet j) e

-- "the stored numbers stay": of two equal facts the old one is kept.
pub stored_stays : (same : ℕ → ℕ → ℕ → ℕ → Bool) (k v l w : ℕ) → same k v l w ≡ true → join same (known k v) (known l w) ≡ known k v
unfolding join
stored_stays same k v l w e = rw e

-- −1 and 2^64 − 1 store the same 64 bits and are different facts: a negative constant equals no other.
pub sign_tells : (v w : ℕ) → equal_numbers 1 v 0 w ≡ false
unfolding equal_numbers
sign_tells v w = refl

-- ---- written slots

-- "SlotSetN without a note writing every slot in the constant analysis": it writes none.
pub no_note_no_write : (sheet : List ℕ) (pc slot : ℕ) → (instruction sheet pc).op ≡ 8 → eqb (note_kind sheet pc) 3 ≡ false → written sheet pc slot ≡ false
unfolding written written_by writes select has_elements slot_layout_note
no_note_no_write sheet pc slot o n = rw (o, n)

-- ---- transfers

-- "Or of a Conflict giving Conflict: it gives Unknown", and so does Shl, whichever operand it is.
pub conflict_folds_to_unknown : (f : ℕ → ℕ → Fact) (inst : Instruction) (slots : List ℕ) (row : Row) → fact_for slots row inst.b ≡ conflict → fold f inst slots row ≡ unknown
unfolding fold fold_binary u64_fact
conflict_folds_to_unknown f inst slots row e = rw e

pub second_conflict_folds_to_unknown : (f : ℕ → ℕ → Fact) (inst : Instruction) (slots : List ℕ) (row : Row) → fact_for slots row inst.c ≡ conflict → fold f inst slots row ≡ unknown
unfolding fold fold_binary u64_fact
second_conflict_folds_to_unknown f inst slots row e = rw e (go (u64_fact (fact_for slots row inst.b)))
  where
    go : (x : Option ℕ) → fold_binary f x none ≡ unknown
    go none = refl
    go (some x) = refl

-- A shift keeps no bit past 64.
pub shift_fits : (x y : ℕ) → value (shl x y) < 2 ^ 64
unfolding shl shifted value
shift_fits x y = go (ltb y 64)
  where
    go : (b : Bool) → value (shifted b x y) < 2 ^ 64
    go true = mod-lt (x * 2 ^ y) (omega arith)
    go false = omega arith

in_range_lem : (slot start count : ℕ) → start ≤ slot → slot < start + count → in_range slot start count ≡ true
unfolding in_range
in_range_lem slot start count h k = rw (le-leb start slot h, lt-ltb slot (start + count) k)

past_range : (slot start count : ℕ) → start + count ≤ slot → in_range slot start count ≡ false
unfolding in_range
past_range slot start count h = let k : start ≤ slot = omega arith in rw (le-leb start slot k, le-ltb slot (start + count) h)

-- "MapIterNext covers 7 slots": b to b + 6 get the iterator of b ..
pub iter_next_covers : (sheet : List ℕ) (pc : ℕ) (slots : List ℕ) (row : Row) (i : ℕ) → i < 7
    → container_fact iter_next_rule sheet pc slots row ((instruction sheet pc).b + i) ≡ iter_next (fact_for slots row (instruction sheet pc).b)
unfolding container_fact target
iter_next_covers sheet pc slots row i h =
    ap (λ (t : Bool). target t (iter_next (fact_for slots row (instruction sheet pc).b))) (in_range_lem _ _ _ (omega arith) (omega arith))

-- .. and no slot behind them does
pub iter_next_ends : (sheet : List ℕ) (pc : ℕ) (slots : List ℕ) (row : Row) (i : ℕ) → 7 ≤ i
    → container_fact iter_next_rule sheet pc slots row ((instruction sheet pc).b + i) ≡ unknown
unfolding container_fact target
iter_next_ends sheet pc slots row i h =
    ap (λ (t : Bool). target t (iter_next (fact_for slots row (instruction sheet pc).b))) (past_range _ _ _ (omega arith))

-- ---- charges

-- what a part left, whatever it gave
unfoldable pub budget_of : {A : Type 0} → Spent A → Spent (Unit {0})
budget_of (ok a left) = ok tt left
budget_of (stop refusal left) = stop refusal left
budget_of unfinished = unfinished

module _ (sheet slots slots' : List ℕ) where
  -- parts that leave the same, followed by parts that do
  bound_leaves : (part part' : Metered Row) (more : Row → Metered Row) (more' : Row → Metered Row) (budget : VerifierResources)
      → budget_of (part budget) ≡ budget_of (part' budget) → ((r r' : Row) (left : VerifierResources) → budget_of (more r left) ≡ budget_of (more' r' left))
      → budget_of ((part >>= more) budget) ≡ budget_of ((part' >>= more') budget)
  unfolding ◌>>=◌ continue budget_of
  bound_leaves part part' more more' budget e h = go (part budget) (part' budget) e
    where
      go : (x y : Spent Row) → budget_of x ≡ budget_of y → budget_of (continue more x) ≡ budget_of (continue more' y)
      go (ok r left) (ok r' left') k = let w : left ≡ left' = cc in rw w (h r r' left')
      go (ok r left) (stop refusal left') k = cc
      go (ok r left) unfinished k = cc
      go (stop refusal left) (ok r' left') k = cc
      go (stop refusal left) (stop refusal' left') k = k
      go (stop refusal left) unfinished k = k
      go unfinished (ok r' left') k = cc
      go unfinished (stop refusal' left') k = k
      go unfinished unfinished k = refl

  then_leaves : (part : Metered (Unit {0})) (r r' : Row) (budget : VerifierResources) → budget_of ((part >> give r) budget) ≡ budget_of ((part >> give r') budget)
  unfolding ◌>>◌ continue give budget_of
  then_leaves part r r' budget = go (part budget)
    where
      go : (x : Spent (Unit {0})) → budget_of (continue (λ _. give r) x) ≡ budget_of (continue (λ _. give r') x)
      go (ok u left) = refl
      go (stop refusal left) = refl
      go unfinished = refl

  param_leaves : (slot : ℕ) (f : Option Fact) (row row' : Row) (budget : VerifierResources)
      → budget_of (seed_param sheet slots slot f row budget) ≡ budget_of (seed_param sheet slots' slot f row' budget)
  unfolding seed_param give budget_of
  param_leaves slot none row row' budget = refl
  param_leaves slot (some fact) row row' budget = then_leaves (charge_layouts sheet fact) (put slots row slot fact) (put slots' row' slot fact) budget

  params_leave : (start i : ℕ) (row row' : Row) (budget : VerifierResources)
      → budget_of (seed_params sheet slots start i row budget) ≡ budget_of (seed_params sheet slots' start i row' budget)
  unfolding seed_params give budget_of
  params_leave start zero row row' budget = refl
  params_leave start (suc i) row row' budget =
      bound_leaves (seed_params sheet slots start i row) (seed_params sheet slots' start i row') _ _ budget (params_leave start i row row' budget)
      (λ r r' left. param_leaves (start + sum (λ j. param_width sheet j) i) (param_fact sheet i) r r' left)

  row_leaves : (start : Option ℕ) (row row' : Row) (budget : VerifierResources)
      → budget_of (param_row sheet slots start row budget) ≡ budget_of (param_row sheet slots' start row' budget)
  unfolding param_row give budget_of
  row_leaves none row row' budget = refl
  row_leaves (some start) row row' budget = params_leave start (param_count sheet) row row' budget

  -- "charged even for an untracked slot": what parameters and notes cost does not depend on the slots that are tracked.
  pub charged_untracked : (budget : VerifierResources) → budget_of (container_row false sheet slots budget) ≡ budget_of (container_row false sheet slots' budget)
  unfolding container_row
  charged_untracked budget =
      bound_leaves (param_row sheet slots (param_start sheet) (unknown_row slots)) (param_row sheet slots' (param_start sheet) (unknown_row slots')) _ _ budget
      (row_leaves (param_start sheet) (unknown_row slots) (unknown_row slots') budget)
      (λ r r' left. then_leaves (charge_instruction_facts sheet) r r' left)

-- A slot taken from the closure's stack is charged all its edges, also those that this analysis does not follow.
pub all_edges_charged : (which : AnalysisKind) (sheet : List ℕ) (d : ℕ) (ds : List ℕ) (go : Marked → Metered Marked) (m : Marked) (budget : VerifierResources)
    → budget.work < length (edges_to sheet d)
    → take_slot which sheet (d ∷ ds) go m budget ≡ stop (over_budget (stage_number which) (length (edges_to sheet d)) budget.work) budget
unfolding take_slot ◌>>◌ continue spend_work in_stage charge_work work_charged
all_edges_charged which sheet d ds go m budget h = rw (lt-leb (length (edges_to sheet d)) budget.work h)

-- The closure's stack is last in, first out.
pub last_marked_first : (slot : ℕ) (m : Marked) → eqb (get_or m.marks slot 1) 0 ≡ true → (mark slot m).stack ≡ slot ∷ m.stack
unfolding mark marked
last_marked_first slot m e = rw e

-- ---- opcodes

-- "Opcodes (decimal)", in document 01's order
pub opcodes :
    O.LoadInt ∷ O.LoadConst ∷ O.Copy ∷ O.CopyN ∷ O.SlotGet ∷ O.SlotSet ∷ O.SlotGetN ∷ O.SlotSetN ∷ O.PtrNew ∷ O.Or ∷ O.Shl ∷ O.Jump ∷ O.JumpIf ∷ O.JumpIfNot
    ∷ O.Return ∷ O.ArrayNew ∷ O.SliceNew ∷ O.SliceAppend ∷ O.MapNew ∷ O.MapGet ∷ O.MapSet ∷ O.MapDelete ∷ O.MapLen ∷ O.MapIterInit ∷ O.MapIterNext
    ∷ O.QueueNew ∷ O.QueueSend ∷ O.QueueRecv ∷ O.QueueClose ∷ O.QueueLen ∷ O.QueueCap ∷ O.SelectSend ∷ O.SelectRecv ∷ O.Panic ∷ O.IndexCheck ∷ O.ForLoop ∷ []
    ≡ 1 ∷ 2 ∷ 3 ∷ 4 ∷ 5 ∷ 6 ∷ 7 ∷ 8 ∷ 13 ∷ 49 ∷ 53 ∷ 57 ∷ 58 ∷ 59 ∷ 64 ∷ 77 ∷ 81 ∷ 87 ∷ 89 ∷ 90 ∷ 91 ∷ 92 ∷ 93 ∷ 94 ∷ 95
    ∷ 96 ∷ 97 ∷ 98 ∷ 99 ∷ 100 ∷ 101 ∷ 103 ∷ 104 ∷ 111 ∷ 121 ∷ 124 ∷ []
opcodes = refl

-- ---- numbers

-- A lookup's answers, "none" and "no" among them, have number 0: they are no refusals. What question 9 refuses has 9.
pub lookup_numbers : (k v : ℕ)
    → (slot_fact_numbered (cell_found k v)).number ∷ (slot_fact_numbered none_found).number ∷ (slot_fact_numbered (Err damaged)).number
    ∷ (reachability_numbered (Ok true)).number ∷ (reachability_numbered (Ok false)).number ∷ (reachability_numbered (Err damaged)).number ∷ []
    ≡ 0 ∷ 0 ∷ 9 ∷ 0 ∷ 0 ∷ 9 ∷ []
unfolding cell_found none_found slot_fact_numbered reachability_numbered
lookup_numbers k v = refl
