-- What is to run after an outcome, as the code makes it.
-- Assumes nothing.
use Rattle.std.specs.Prelude.{Ok, Err}
use mathlib.Core.Path.{◌≡◌, refl, sym, ap, ◌∙◌}
use mathlib.Core.Bool.{false}
use mathlib.Core.List.{List, ◌++◌, map}
use mathlib.Core.Option.{Option, some}
use Prim.Native.Nat.{ℕ, ◌-◌}
use lib.ListN.{length, replicate}
use Rattle.model.specs.Sheet.{code_count}
use Rattle.model.specs.Charges.{continue}
use Rattle.model.specs.Fact.{kind, value}
use Rattle.model.specs.Call.{zeros, filled}
use Rattle.model.specs.declared.VerifierResources.{VerifierResources}
use Rattle.model.specs.declared.AnalysisKind.{AnalysisKind}
use Rattle.budget.specs.Outcome.{Outcome, as_spent, Leaves, leaves, leaves_of}
use Rattle.budget.specs.declared.Refused.{Refused}
use Rattle.stage_entry.proofs.Refusals.{refused_not_covered}
use Rattle.budget.proofs.Outcomes.{stopped_then, stopped_leaves, spent_stopped}
use Rattle.budget.proofs.Spending.{covered}
use Rattle.finality.proofs.Lengths.{zeros_length}
use Rattle.stage_memory.specs.Room.{room_by}
use Rattle.stage_prepare.specs.declared.Room.{Room}
use Rattle.stage_prepare.specs.Begin.{Begun, begin, enough}
use Rattle.stage_prepare.specs.Prepare.{something, PrepareEnd, prepared, prepared_by, unprepared}

module _ (which : AnalysisKind) (sheet slots row_kinds row_values : List ℕ) (room : Room) (before : Outcome) {cleared : List ℕ} (clear : cleared ≡ zeros slots) where
  abbrev goal : Option (Leaves PrepareEnd)
  goal = leaves_of (prepared_by (code_count sheet) slots row_kinds row_values) (unprepared slots row_kinds row_values)
      (continue (λ _. begin which sheet (enough room sheet slots row_kinds row_values)) (as_spent before))

  -- nothing, after a refusal
  pub prepared_none : {refused : Refused} → row_kinds ≡ zeros row_kinds → row_values ≡ zeros row_values → before ≡ Err refused
      → some (leaves (Err refused) (prepared false 0 cleared row_kinds row_values)) ≡ goal
  prepared_none zk zv e = rw (sym e) (stopped_leaves (stopped_then (spent_stopped before refl (refused_not_covered e)) _) _ (cc))

  -- what was begun in slots that are clear
  pub prepared_begun : {left : VerifierResources} {outcome : Outcome} {end : PrepareEnd} → before ≡ Ok left
      → some (leaves outcome end)
      ≡ leaves_of (prepared_by (code_count sheet) cleared row_kinds row_values) (unprepared cleared row_kinds row_values)
      (begin which sheet (enough room sheet cleared row_kinds row_values) left)
      → some (leaves outcome end) ≡ goal
  unfolding zeros filled continue
  prepared_begun {left} e h = rw (covered refl e) (h ∙ ap by_length (ap length clear ∙ zeros_length slots))
    where
      by_length : ℕ → Option (Leaves PrepareEnd)
      by_length m = leaves_of
          (λ (b : Begun). prepared (something (code_count sheet) (length b.slots)) (length b.slots) (b.slots ++ replicate (m - length b.slots) 0) (filled (map kind b.entry) row_kinds)
          (filled (map value b.entry) row_values))
          (prepared false 0 (replicate m 0) (zeros row_kinds) (zeros row_values))
          (begin which sheet (λ s. room_by (code_count sheet) s m room.present room.kinds room.values (length row_kinds) (length row_values) room.work_list) left)
