-- Every lent buffer is as long after a call as before it.
-- Assumes nothing.
use mathlib.Core.Path.{◌≡◌, refl, sym, ap, ◌∙◌, subst}
use mathlib.Core.Bool.{Bool, true, false}
use mathlib.Core.Logic.{◌⊎◌, inl, inr}
use mathlib.Core.List.{List}
use mathlib.Core.Option.{Option, none, some}
use Prim.Native.Nat.{ℕ, ◌*◌, ◌≤◌, ◌<◌}
use native.Mathlib.Omega.{arith}
use lib.Dec.{leb}
use lib.ListN.{length, replicate, length-append, length-replicate}
use borrow.Author.Tests.{leb-true}
use Rattle.model.specs.Sheet.{code_count, sheet_refusal}
use Rattle.model.specs.Charges.{Spent, ok, stop, unfinished}
use Rattle.model.specs.Fact.{Fact, unknown, kind, value, Row}
use Rattle.model.specs.Run.{finished, row_at}
use Rattle.model.specs.Tables.{present_bytes, cells}
use Rattle.model.specs.Analyses.{Analysed, Facts, analysis, ask_room, length_facts, stage, analyses}
use Rattle.model.specs.declared.Question.{Question}
use Rattle.model.specs.declared.Question.TheVariants.{ClosureRoom}
use Rattle.model.specs.Call.{Table, Lent, table_of, room_for, table_room, CallEnd, kept, cleared, completed, call_end, closure_room, after_six, after_five, call, tables, zeros, filled, zero_table, filled_table, scratch_zero, lent_after}
use Rattle.model.specs.CallDemand.{Made, Demanded}
use Rattle.model.specs.declared.VerifierResources.{VerifierResources}
use Rattle.model.specs.declared.AnalysisKind.{AnalysisKind}
use Rattle.model.specs.declared.AnalysisKind.TheVariants.{Constant, IndexCheck, Container}
use Rattle.model.proofs.Metered.{bound_parts, then_parts, given}
use Rattle.finality.proofs.Call.{stage_made, made_demanded}
use Rattle.finality.proofs.Cells.{length_present, length_cells}
use Rattle.finality.proofs.Invariant.{none_some, row_at-replicate, zero_or_above}
use Rattle.model.proofs.Tests.{both}

pub zeros_length : (old : List ℕ) → length (zeros old) ≡ length old
unfolding zeros
zeros_length old = length-replicate {A = ℕ} (length old) 0

-- as many zeros are the same zeros
pub zeros_same : (xs ys : List ℕ) → length xs ≡ length ys → zeros xs ≡ zeros ys
unfolding zeros
zeros_same xs ys e = ap (λ (k : ℕ). replicate k 0) e

filled_length : (table old : List ℕ) → length table ≤ length old → length (filled table old) ≡ length old
unfolding filled
filled_length table old h = simp (length-append, length-replicate) (omega arith)

-- the lengths of an output
pub record SameLengths (t u : Table) : Type 0 where
  pub slots : length t.slots ≡ length u.slots
  pub present : length t.present ≡ length u.present
  pub kinds : length t.kinds ≡ length u.kinds
  pub values : length t.values ≡ length u.values

-- an output that is cleared keeps its lengths
pub zero_lengths : (old : Table) → SameLengths (zero_table old) old
unfolding zero_table
zero_lengths old = record {
  slots = zeros_length old.slots;
  present = zeros_length old.present;
  kinds = zeros_length old.kinds;
  values = zeros_length old.values;
}

pub roomy : (n : ℕ) (t : Table) (row_kinds row_values work_list : List ℕ) (s : ℕ) → room_for n t row_kinds row_values work_list s ≡ true
    → (s ≤ length t.slots) × (n ≤ length t.present) × (n * s ≤ length t.kinds) × (n * s ≤ length t.values)
unfolding room_for
roomy n t row_kinds row_values work_list s e =
    let list = both _ _ e in
    let values = both _ _ list.0 in
    let kinds = both _ _ values.0 in
    let present = both _ _ kinds.0 in
    let row = both _ _ present.0 in
    let slots = both _ _ row.0 in
    (below slots.0, below present.1, below kinds.1, below values.1)
  where
    below : {i j : ℕ} → leb i j ≡ true → i ≤ j
    below {i} {j} h = omega (arith, leb-true)

-- ---- an analysis of a call

-- the rows of an ended analysis: n of them, each of s facts
module _ (which : AnalysisKind) (sheet : List ℕ) (length_fact : ℕ → Fact) (before : VerifierResources) (a : Analysed) (after : VerifierResources)
    (m : Made which sheet length_fact before a after) where
  demanded : Demanded which sheet length_fact a
  demanded = made_demanded which sheet length_fact before a after m

  rows_none : (code_count sheet ≡ 0) ⊎ (length a.slots ≡ 0) → a.rows ≡ replicate (code_count sheet) none
  unfolding analysis
  rows_none z =
      let e : finished a.rows a.pops after.work ≡ finished (replicate (code_count sheet) none) 0 a.started.work = sym m.ran ∙ demanded.run.at_once z in
      cc

  Sized : Type 0
  Sized = (length a.rows ≡ code_count sheet) × ((p : ℕ) (r : Row) → row_at a.rows p ≡ some r → length r ≡ length a.slots)

  none_sized : a.rows ≡ replicate (code_count sheet) none → Sized
  unfolding Sized
  none_sized e = (
    ap length e ∙ length-replicate {A = Option Row} (code_count sheet) none,
    λ p r k. absurd (none_some r (sym (row_at-replicate (code_count sheet) p) ∙ (rw e at k))),
  )

  rows_sized : Sized
  unfolding Sized analysis
  rows_sized = go (zero_or_above (code_count sheet)) (zero_or_above (length a.slots))
    where
      go : (code_count sheet ≡ 0) ⊎ (0 < code_count sheet) → (length a.slots ≡ 0) ⊎ (0 < length a.slots)
          → (length a.rows ≡ code_count sheet) × ((p : ℕ) (r : Row) → row_at a.rows p ≡ some r → length r ≡ length a.slots)
      go (inl e) y = none_sized (rows_none (inl e))
      go (inr hn) (inl e) = none_sized (rows_none (inr e))
      go (inr hn) (inr hs) = let f = demanded.rows hn hs in (f.size, f.row_length)

  -- its output keeps its lengths, where question 8 found room
  pub filled_lengths : (old : Table) → length a.slots ≤ length old.slots → code_count sheet ≤ length old.present
      → code_count sheet * length a.slots ≤ length old.kinds → code_count sheet * length a.slots ≤ length old.values
      → SameLengths (filled_table (tables a) old) old
  unfolding filled_table tables Sized
  filled_lengths old hs hp hk hv =
      let z = rows_sized in record {
        slots = filled_length a.slots old.slots hs;
        present = filled_length (present_bytes a.rows) old.present (omega (arith, length_present a.rows, z.0));
        kinds = filled_length (cells kind (length a.slots) a.rows) old.kinds (rw (length_cells kind (length a.slots) a.rows z.1, z.0) hk);
        values = filled_length (cells value (length a.slots) a.rows) old.values (rw (length_cells value (length a.slots) a.rows z.1, z.0) hv);
      }

-- question 8 was answered yes in every stage that ended
pub stage_room : (which : AnalysisKind) (sheet : List ℕ) (enough : ℕ → Bool) (length_fact : ℕ → Fact) (before : VerifierResources) (a : Analysed) (after : VerifierResources)
    → stage which sheet enough length_fact before ≡ ok a after → enough (length a.slots) ≡ true
unfolding stage
stage_room which sheet enough length_fact before a after e =
    let m = stage_made which sheet enough length_fact before a after e in
    let p = bound_parts e in
    let r = then_parts p.after in
    let w : p.a ≡ a.slots = same_slots p.before m.tracked in
    ap (λ (l : List ℕ). enough (length l)) (sym w) ∙ yes (enough (length p.a)) p.rest r.rest r.before
  where
    same_slots : {xs ys : List ℕ} {l k : VerifierResources} {x : Spent (List ℕ)} → x ≡ ok xs l → x ≡ ok ys k → xs ≡ ys
    same_slots f g = cc

    yes : (b : Bool) (left rest : VerifierResources) → ask_room b left ≡ ok tt rest → b ≡ true
    yes true left rest f = refl
    yes false left rest f = unfold ask_room in (let z : ◌≡◌ {A = ℕ} 0 1 = cc in absurd (omega arith))

-- An ended stage has n rows, each of s facts.
pub stage_sized : (which : AnalysisKind) (sheet : List ℕ) (enough : ℕ → Bool) (length_fact : ℕ → Fact) (before : VerifierResources) (a : Analysed) (after : VerifierResources)
    → stage which sheet enough length_fact before ≡ ok a after
    → (length a.rows ≡ code_count sheet) × ((p : ℕ) (r : Row) → row_at a.rows p ≡ some r → length r ≡ length a.slots)
unfolding Sized
stage_sized which sheet enough length_fact before a after e =
    rows_sized which sheet length_fact before a after (stage_made which sheet enough length_fact before a after e)

-- So an ended stage leaves an output as long as it was.
pub stage_lengths : (which : AnalysisKind) (sheet : List ℕ) (old : Table) (row_kinds row_values work_list : List ℕ) (length_fact : ℕ → Fact) (before : VerifierResources) (a : Analysed) (after : VerifierResources)
    → stage which sheet (room_for (code_count sheet) old row_kinds row_values work_list) length_fact before ≡ ok a after → SameLengths (filled_table (tables a) old) old
stage_lengths which sheet old row_kinds row_values work_list length_fact before a after e =
    let r = roomy (code_count sheet) old row_kinds row_values work_list (length a.slots) (stage_room which sheet (room_for (code_count sheet) old row_kinds row_values work_list) length_fact before a after e) in
    filled_lengths which sheet length_fact before a after (stage_made which sheet (room_for (code_count sheet) old row_kinds row_values work_list) length_fact before a after e) old r.0 r.1 r.2 r.3

-- ---- of a whole call

-- every lent buffer is as long as the other's
pub record SameRoom (l m : Lent) : Type 0 where
  pub constants : SameLengths l.constants m.constants
  pub index : SameLengths l.index m.index
  pub containers : SameLengths l.containers m.containers
  pub marks : length l.marks ≡ length m.marks
  pub stack : length l.stack ≡ length m.stack
  pub row_kinds : length l.row_kinds ≡ length m.row_kinds
  pub row_values : length l.row_values ≡ length m.row_values
  pub work_list : length l.work_list ≡ length m.work_list

same_table : (t : Table) → SameLengths t t
same_table t = record { slots = refl; present = refl; kinds = refl; values = refl }

kept_lengths : (old : Lent) → SameRoom old old
kept_lengths old = record {
  constants = same_table old.constants;
  index = same_table old.index;
  containers = same_table old.containers;
  marks = refl;
  stack = refl;
  row_kinds = refl;
  row_values = refl;
  work_list = refl;
}

scratch_lengths : (constants index containers : Table) (old : Lent)
    → SameLengths constants old.constants → SameLengths index old.index → SameLengths containers old.containers → SameRoom (scratch_zero constants index containers old) old
unfolding scratch_zero
scratch_lengths constants index containers old x y z = record {
  constants = x;
  index = y;
  containers = z;
  marks = zeros_length old.marks;
  stack = zeros_length old.stack;
  row_kinds = zeros_length old.row_kinds;
  row_values = zeros_length old.row_values;
  work_list = zeros_length old.work_list;
}

analyses_lengths : (sheet : List ℕ) (budget : VerifierResources) (lent : Lent) (facts : Facts) (left : VerifierResources)
    → analyses sheet (table_room sheet lent) budget ≡ ok facts left → SameRoom (lent_after (completed facts left) lent) lent
unfolding analyses table_room table_of lent_after
analyses_lengths sheet budget lent facts left e =
    let flow = then_parts e in
    let dependencies = then_parts flow.after in
    let c = bound_parts dependencies.after in
    let i = bound_parts c.after in
    let o = bound_parts i.after in
    let w : record { constants = c.a; index = i.a; containers = o.a } ≡ facts = given _ o.rest o.after in
    subst (λ (x : Facts). SameRoom (lent_after (completed x left) lent) lent) w
    (scratch_lengths _ _ _ lent
    (stage_lengths Constant sheet lent.constants lent.row_kinds lent.row_values lent.work_list (λ pc. unknown) dependencies.rest c.a c.rest c.before)
    (stage_lengths IndexCheck sheet lent.index lent.row_kinds lent.row_values lent.work_list (length_facts sheet c.a) c.rest i.a i.rest i.before)
    (stage_lengths Container sheet lent.containers lent.row_kinds lent.row_values lent.work_list (λ pc. unknown) i.rest o.a o.rest o.before))

module _ (sheet : List ℕ) (budget : VerifierResources) (lent : Lent) (end : CallEnd) where
  ended : {e : CallEnd} → SameRoom (lent_after e lent) lent → ◌≡◌ {A = Option CallEnd} (some e) (some end) → SameRoom (lent_after end lent) lent
  ended {e} h p = let q : e ≡ end = cc in subst (λ (x : CallEnd). SameRoom (lent_after x lent) lent) q h

  spent_lengths : (spent : Spent Facts) → analyses sheet (table_room sheet lent) budget ≡ spent → call_end spent ≡ some end → SameRoom (lent_after end lent) lent
  unfolding call_end lent_after
  spent_lengths (ok facts left) h p = ended {e = completed facts left} (analyses_lengths sheet budget lent facts left h) p
  spent_lengths (stop refusal left) h p =
      ended {e = cleared refusal left} (scratch_lengths _ _ _ lent (zero_lengths lent.constants) (zero_lengths lent.index) (zero_lengths lent.containers)) p
  spent_lengths unfinished h p = let z : ◌≡◌ {A = ℕ} 0 1 = cc in absurd (omega arith)

  six_lengths : (b : Bool) → after_six b sheet budget lent ≡ some end → SameRoom (lent_after end lent) lent
  unfolding after_six lent_after
  six_lengths true p = spent_lengths _ refl p
  six_lengths false p = ended {e = kept ClosureRoom} (kept_lengths lent) p

  five_lengths : (refusal : Option Question) → after_five refusal sheet budget lent ≡ some end → SameRoom (lent_after end lent) lent
  unfolding after_five lent_after
  five_lengths none p = six_lengths (closure_room sheet lent) p
  five_lengths (some question) p = ended {e = kept question} (kept_lengths lent) p

  -- Every lent buffer is as long after a call as before it.
  pub call_lengths : call sheet budget lent ≡ some end → SameRoom (lent_after end lent) lent
  unfolding call
  call_lengths p = five_lengths (sheet_refusal sheet) p
