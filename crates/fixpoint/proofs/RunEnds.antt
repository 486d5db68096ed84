-- What the loop answers and leaves, cleared, is what the defined run gives.
-- Assumes nothing.
use mathlib.Core.Path.{◌≡◌, refl, ap, ◌∙◌}
use mathlib.Core.List.{List}
use mathlib.Core.Option.{Option, some}
use Prim.Native.Nat.{ℕ}
use lib.ListN.{length}
use Rattle.std.specs.Prelude.{Result, Ok, Err}
use Rattle.model.specs.Charges.{Spent}
use Rattle.model.specs.Fact.{Row}
use Rattle.model.specs.Run.{finished, overdrawn, run}
use Rattle.model.specs.Tables.{RowsLie}
use Rattle.model.specs.Analyses.{Analysed, ran_to, propagate}
use Rattle.model.specs.Call.{zeros}
use Rattle.model.specs.declared.VerifierResources.{VerifierResources}
use Rattle.finality.proofs.Lengths.{zeros_same}
use Rattle.budget.specs.Outcome.{refused_by, leaves, leaves_of}
use Rattle.budget.specs.declared.Refused.{Refused}
use Rattle.fixpoint_step.specs.OneStep.{sheet_of, lengths_of}
use Rattle.fixpoint_step.specs.declared.tracked.TrackedAnalysis.{TrackedAnalysis}
use Rattle.fixpoint.specs.declared.Ran.{Ran}
use Rattle.fixpoint.specs.Memory.{RunMemory, run_memory, run_tables, zero_run}
use Rattle.fixpoint.specs.Turn.{ran_analysis}
use Rattle.fixpoint.specs.Result.{outcome_of, pops_of, ran, ran_tables, run_ended, run_refused}

-- ---- the answer and the memory of a run

memory_path : {p k v a c l p' k' v' a' c' l' : List ℕ} → p ≡ p' → k ≡ k' → v ≡ v' → a ≡ a' → c ≡ c' → l ≡ l'
    → run_memory p k v a c l ≡ run_memory p' k' v' a' c' l'
memory_path ep ek ev ea ec el = cc

-- the lengths that a run keeps
pub record RunLengths (new old : RunMemory) : Type 0 where
  pub present : length new.present ≡ length old.present
  pub kinds : length new.kinds ≡ length old.kinds
  pub values : length new.values ≡ length old.values
  pub row_kinds : length new.row_kinds ≡ length old.row_kinds
  pub row_values : length new.row_values ≡ length old.row_values

-- what is cleared is as long as what was lent
pub all_zero : (m old new : RunMemory) → RunLengths m old → length m.work_list ≡ length old.work_list
    → (new.present ≡ zeros m.present) × (new.kinds ≡ zeros m.kinds) × (new.values ≡ zeros m.values) → (new.row_kinds ≡ zeros m.row_kinds) × (new.row_values ≡ zeros m.row_values)
    → new.work_list ≡ zeros m.work_list → new ≡ zero_run old
unfolding zero_run
all_zero m old new long list f g h =
    memory_path (f.0 ∙ zeros_same _ _ long.present) (f.1 ∙ zeros_same _ _ long.kinds) (f.2 ∙ zeros_same _ _ long.values)
    (g.0 ∙ zeros_same _ _ long.row_kinds) (g.1 ∙ zeros_same _ _ long.row_values) (h ∙ zeros_same _ _ list)

module _ (a : TrackedAnalysis) (entry : Row) (resources : VerifierResources) where
  abbrev spent : Spent Analysed
  spent = propagate a.which (sheet_of a) a.slots.now (lengths_of a) entry resources

  -- what the run promises
  abbrev pub Told : Result Ran Refused → RunMemory → RunMemory → Type 0
  Told r old new = some (leaves (outcome_of r) (ran (pops_of r) new)) ≡ leaves_of (ran_tables (zero_run old)) (ran 0 (zero_run old)) spent

  -- the empty list ended it: its rows lie there, and what is over is cleared
  pub told_ended : (rows : List (Option Row)) (pops rest : ℕ) → run (ran_analysis a entry) resources.work ≡ finished rows pops rest
      → (m old : RunMemory) → RowsLie (length a.slots.now) rows (run_tables m) → m.row_kinds ≡ zeros old.row_kinds → m.row_values ≡ zeros old.row_values
      → m.work_list ≡ zeros old.work_list → (r : Ran) → r ≡ run_ended pops resources rest → Told (Ok r) old m
  unfolding ran_analysis propagate ran_to leaves_of ran_tables zero_run run_ended
  told_ended rows pops rest e m old l rk rv wl r is =
      rw (is, e) (ap (λ (x : RunMemory). some (leaves (Ok (record { bytes = resources.bytes; work = rest })) (ran pops x)))
      (memory_path l.present_are l.kinds_are l.values_are rk rv wl))

  -- a refused charge ended it: all of it is cleared
  pub told_refused : (requested rest : ℕ) → run (ran_analysis a entry) resources.work ≡ overdrawn requested rest
      → (old new : RunMemory) → new ≡ zero_run old → (r : Refused) → r ≡ run_refused a.which requested resources rest → Told (Err r) old new
  unfolding ran_analysis propagate ran_to leaves_of refused_by run_refused
  told_refused requested rest e old new z r is = rw (is, e, z) refl
