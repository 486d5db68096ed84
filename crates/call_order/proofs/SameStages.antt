-- A stage is the same by two answers to question 8 that agree, and by two length facts of which the run reads the same.
-- Assumes nothing.
use mathlib.Core.Path.{◌≡◌, ap, ◌∙◌, fun_ext}
use mathlib.Core.Bool.{Bool}
use mathlib.Core.List.{List}
use Prim.Native.Nat.{ℕ, ◌<◌}
use native.Mathlib.Omega.{arith}
use lib.ListN.{length}
use Rattle.model.specs.Sheet.{code_count, instruction}
use Rattle.model.specs.Charges.{Metered, ◌>>=◌, ◌>>◌}
use Rattle.model.specs.Closure.{tracked_slots}
use Rattle.model.specs.Fact.{Fact, Row}
use Rattle.model.specs.Run.{RunEnd, run}
use Rattle.model.specs.Transfer.{checked_from}
use Rattle.model.specs.Analyses.{Analysed, analysis, ask_room, charge_matrix, first_row, ran_to, propagate, stage}
use Rattle.model.specs.Call.{Table, Scratch, room_for}
use Rattle.model.specs.declared.AnalysisKind.{AnalysisKind}
use Rattle.model.specs.declared.AnalysisKind.TheVariants.{Constant, IndexCheck, Container}
use Rattle.finality.proofs.Lengths.{zeros_length}
use Rattle.stage_memory.specs.Stage.{zero_scratch}
use Rattle.call_order.proofs.IndexRuns.{same_run, other_run}

-- question 8 with a scratch that was cleared
pub room_cleared : (n : ℕ) (t : Table) (W : Scratch) {w : Scratch} → w ≡ zero_scratch W
    → room_for n t w.row_kinds w.row_values w.work_list ≡ room_for n t W.row_kinds W.row_values W.work_list
unfolding zero_scratch room_for
room_cleared n t W e = fun_ext (λ s. rw (e, zeros_length W.row_kinds, zeros_length W.row_values, zeros_length W.work_list))

module _ (which : AnalysisKind) (sheet : List ℕ) {enough enough' : ℕ → Bool} (room : enough ≡ enough') (f g : ℕ → Fact)
    (runs : (slots : List ℕ) (entry : Row) (left : ℕ) → run (analysis which sheet slots f entry) left ≡ run (analysis which sheet slots g entry) left) where
  stage_same : stage which sheet enough f ≡ stage which sheet enough' g
  unfolding stage propagate
  stage_same =
      ap (λ (e : ℕ → Bool). stage which sheet e f) room
      ∙ ap (λ (p : List ℕ → Row → Metered Analysed). tracked_slots which sheet >>= λ slots. ask_room (enough' (length slots)) >> (charge_matrix which sheet slots >> (first_row which sheet slots >>= p slots)))
      (fun_ext (λ slots. fun_ext (λ entry. fun_ext (λ left. ap (λ (e : RunEnd). ran_to e which slots entry left) (runs slots entry left.work)))))

module _ (sheet : List ℕ) {enough enough' : ℕ → Bool} (room : enough ≡ enough') (f g : ℕ → Fact) where
  -- the constant and the container analysis read no length fact
  pub other_same : (which : AnalysisKind) → (which ≡ IndexCheck → ⊥) → stage which sheet enough f ≡ stage which sheet enough' g
  other_same which other = stage_same which sheet room f g (λ slots entry left. other_run which sheet slots f g entry other left)

  pub constants_same : stage Constant sheet enough f ≡ stage Constant sheet enough' g
  constants_same = other_same Constant (λ e. let z : ◌≡◌ {A = ℕ} 0 1 = cc in absurd (omega arith))

  pub containers_same : stage Container sheet enough f ≡ stage Container sheet enough' g
  containers_same = other_same Container (λ e. let z : ◌≡◌ {A = ℕ} 0 1 = cc in absurd (omega arith))

  -- the index analysis reads them at each IndexCheck
  pub index_same : ((pc : ℕ) → pc < code_count sheet → (instruction sheet pc).op ≡ 121 → checked_from (f pc) ≡ checked_from (g pc))
      → stage IndexCheck sheet enough f ≡ stage IndexCheck sheet enough' g
  index_same h = stage_same IndexCheck sheet room f g (λ slots entry left. same_run IndexCheck sheet slots f g entry h left)
