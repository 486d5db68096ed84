-- From what the run is lent to the first turn, and the lengths that every turn keeps.
-- Assumes nothing.
use mathlib.Core.Path.{◌≡◌, sym, ap, ◌∙◌}
use mathlib.Core.Bool.{Bool}
use mathlib.Core.List.{List, [], ◌∷◌}
use mathlib.Core.Option.{Option, none}
use Prim.Native.Nat.{ℕ, ◌+◌, ◌*◌, ◌<◌}
use native.Mathlib.Nat.{mul-le-mul_right}
use native.Mathlib.Omega.{arith}
use lib.ListN.{length, set, replicate, length-replicate, length-set}
use Rattle.model.specs.Sheet.{code_count}
use Rattle.model.specs.Fact.{Row, equal_known}
use Rattle.model.specs.Run.{Analysis}
use Rattle.model.specs.Tables.{TableSlices, table_slices, RowsLie, row_slices, facts_of}
use Rattle.model.proofs.Facts.{lies_kinds, lies_values}
use Rattle.model.specs.Analyses.{analysis}
use Rattle.model.specs.Demand.{Lawful}
use Rattle.model.specs.declared.VerifierResources.{VerifierResources}
use Rattle.sheet_layouts.specs.Classes.{equal_by}
use Rattle.sheet_layouts.proofs.Classes.{equal_by_lem}
use Rattle.fixpoint_list.specs.Listed.{Listed}
use Rattle.fixpoint_list.proofs.Listed.{empty_listed, listed_added}
use Rattle.fixpoint_step.specs.News.{rows_visited}
use Rattle.fixpoint_step.specs.Visits.{JoinRequires, JoinEnsures}
use Rattle.fixpoint_step.specs.OneStep.{sheet_of}
use Rattle.fixpoint_step.specs.declared.tracked.TrackedAnalysis.{TrackedAnalysis}
use Rattle.fixpoint.specs.Memory.{RunMemory, run_memory}
use Rattle.fixpoint.specs.Turn.{ran_analysis, Turn, RunRequires}
use Rattle.fixpoint.proofs.LoopTurns.{law, turn_of}
use Rattle.fixpoint.proofs.LoopState as T
use Rattle.fixpoint.proofs.RunEnds.{RunLengths}

-- the lengths of what the run is lent
lent_lengths : {n s : ℕ} {m : RunMemory} → RunRequires n s m
    → (length m.present ≡ n) × (length m.kinds ≡ n * s) × (length m.values ≡ n * s) × (length m.row_kinds ≡ s) × (length m.row_values ≡ s)
lent_lengths {n} {s} f = (
  ap length f.present_zero ∙ length-replicate {A = ℕ} n 0,
  ap length f.kinds_zero ∙ length-replicate {A = ℕ} (n * s) 0,
  ap length f.values_zero ∙ length-replicate {A = ℕ} (n * s) 0,
  lies_kinds f.row_lies ∙ f.row_length,
  lies_values f.row_lies ∙ f.row_length,
)

-- a turn keeps them
pub turn_lengths : {a : TrackedAnalysis} {entry : Row} {left room : ℕ} {m old : RunMemory} {top pops rest : ℕ}
    → Turn a entry left room m top pops rest → RunRequires (code_count (sheet_of a)) (length a.slots.now) old → RunLengths m old
turn_lengths t f =
    let w = lent_lengths f in record {
      present = t.present_length ∙ sym w.0;
      kinds = t.kinds_length ∙ sym w.1;
      values = t.values_length ∙ sym w.2;
      row_kinds = t.row_kinds_length ∙ sym w.3;
      row_values = t.row_values_length ∙ sym w.4;
    }

module _ (a : TrackedAnalysis) (resources : VerifierResources) {present kinds values row_kinds row_values list : List ℕ}
    (f : RunRequires (code_count (sheet_of a)) (length a.slots.now) (run_memory present kinds values row_kinds row_values list)) where
  abbrev first : Row
  first = facts_of row_kinds row_values

  abbrev of : Analysis
  of = ran_analysis a first

  lawful : Lawful (ran_analysis a (facts_of row_kinds row_values))
  lawful = law a first f.row_length

  none_lie : RowsLie (length a.slots.now) (replicate (code_count (sheet_of a)) none) (table_slices present kinds values)
  unfolding ran_analysis analysis
  none_lie = rw (f.present_zero, f.kinds_zero, f.values_zero) (T.none_lie of lawful)

  -- instruction 0 gets the first row
  pub start_joins : JoinRequires 0 (table_slices present kinds values) (row_slices row_kinds row_values)
  start_joins =
      let w = lent_lengths f in record {
        below = rw w.0 a.tracked.some_code;
        visitable = record {
          row_values_length = w.4 ∙ sym w.3;
          kinds_length = rw (w.3, w.0) w.1;
          values_length = rw (w.3, w.0) w.2;
          rows = replicate (code_count (sheet_of a)) none;
          copy = first;
          rows_lie = rw w.3 none_lie;
          copy_lies = f.row_lies;
        };
      }

  -- and the list holds 0 alone
  some_room : 0 < length list
  some_room = let k = mul-le-mul_right (1 + 2 * length a.slots.now) a.tracked.some_code in omega (arith, f.list_fits)

  module _ (new : TableSlices) (fresh : Bool) (j : JoinEnsures (equal_by a.which a.indexed.now.classes.now) 0 (table_slices present kinds values) (row_slices row_kinds row_values) new fresh)
      {lisnew : List ℕ} {top' : ℕ} (l' : lisnew ≡ set list 0 0) (t' : top' ≡ 0 + 1) where
    joined : RowsLie (length a.slots.now) (rows_visited (equal_known a.which (sheet_of a)) first 0 (replicate (code_count (sheet_of a)) none)) new
    unfolding JoinEnsures ran_analysis analysis
    joined =
        ((rw ((lent_lengths f).3, equal_by_lem a.indexed.now.classed a.which) at j) (replicate (code_count (sheet_of a)) none) first none_lie f.row_lies
        (rw (length-replicate {A = Option Row} (code_count (sheet_of a)) none) a.tracked.some_code)).0

    listed : Listed (0 ∷ []) lisnew top'
    listed = rw (l', t') (listed_added 0 [] list 0 (empty_listed list f.list_zero) some_room)

    list_length : length lisnew ≡ length list
    list_length = rw l' (length-set list 0 0)

    -- what the loop asks
    pub start_turn : Turn a (facts_of row_kinds row_values) resources.work (length lisnew) (run_memory new.present new.kinds new.values row_kinds row_values lisnew) top' 0 resources.work
    unfolding ran_analysis analysis
    start_turn =
        rw list_length (turn_of a first f.row_length resources.work (length list) f.list_fits
        (run_memory new.present new.kinds new.values row_kinds row_values lisnew) top' 0 resources.work (lent_lengths f).3 (lent_lengths f).4 list_length
        (T.started of lawful resources.work new lisnew top' joined listed))
