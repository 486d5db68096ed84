-- Outputs and scratch that were cleared, and what the analyses are lent.
-- Assumes nothing.
use mathlib.Core.Path.{◌≡◌, refl, sym, ap, ◌∙◌}
use mathlib.Core.Bool.{Bool}
use mathlib.Core.List.{List}
use mathlib.Core.Option.{some}
use Prim.Native.Nat.{ℕ, ◌≤◌}
use native.Mathlib.Omega.{arith}
use lib.ListN.{length}
use Rattle.model.specs.Sheet.{code_count, local_slots}
use Rattle.model.specs.Charges.{Spent, continue}
use Rattle.model.specs.Fact.{Fact}
use Rattle.model.specs.Analyses.{Analysed, stage}
use Rattle.model.specs.Call.{Table, Scratch, room_for, zeros, zero_table}
use Rattle.model.specs.declared.AnalysisKind.{AnalysisKind}
use Rattle.model.specs.declared.Counts.{Counts}
use Rattle.finality.proofs.Lengths.{zeros_length, SameLengths, zeros_same}
use Rattle.sheet.specs.declared.Sizes.{Sizes}
use Rattle.sheet.specs.Measured.{Accepted}
use Rattle.sheet.proofs.AcceptedSheet.{measured}
use Rattle.sheet.proofs.SizeNames.{counted}
use Rattle.sheet.proofs.SizeLimits.{limited}
use Rattle.budget.specs.Outcome.{Outcome, as_spent, leaves, leaves_of}
use Rattle.stage_memory.specs.Lent.{table_in, SameTable}
use Rattle.stage_memory.specs.Stage.{zero_scratch}
use Rattle.stage_memory.specs.declared.lent.LentTable.{LentTable}
use Rattle.stage_memory.specs.Staged.{ScratchZero, no_counts, StageLeft, staged, staged_by}
use Rattle.call_order.proofs.PartAfterPart.{left_same}

-- ---- outputs

-- as long, so cleared alike
pub zero_same : (t u : Table) → SameLengths t u → zero_table t ≡ zero_table u
unfolding zero_table
zero_same t u h =
    rw (
      zeros_same t.slots u.slots h.slots,
      zeros_same t.present u.present h.present,
      zeros_same t.kinds u.kinds h.kinds,
      zeros_same t.values u.values h.values,
    )

-- a lent output that is as long as before
pub same_long : {old new : LentTable} → SameTable old new → SameLengths (table_in new) (table_in old)
same_long s = record { slots = s.slots.same_length; present = s.present.same_length; kinds = s.kinds.same_length; values = s.values.same_length }

-- ---- the scratch

zeros_twice : (xs : List ℕ) → zeros (zeros xs) ≡ zeros xs
zeros_twice xs = zeros_same (zeros xs) xs (zeros_length xs)

scratch_twice : (W : Scratch) {w : Scratch} → w ≡ zero_scratch W → zero_scratch w ≡ zero_scratch W
unfolding zero_scratch
scratch_twice W e = rw (e, zeros_twice W.marks, zeros_twice W.stack, zeros_twice W.row_kinds, zeros_twice W.row_values, zeros_twice W.work_list)

-- what the analyses ask of it
pub clean : (sheet : List ℕ) (W : Scratch) {w : Scratch} → w ≡ zero_scratch W → local_slots sheet ≤ length W.marks → local_slots sheet ≤ length W.stack → ScratchZero sheet w
unfolding zero_scratch
clean sheet W e m s = rw e (record {
  no_marks = sym (zeros_twice W.marks);
  no_stack = sym (zeros_twice W.stack);
  no_row_kinds = sym (zeros_twice W.row_kinds);
  no_row_values = sym (zeros_twice W.row_values);
  no_list = sym (zeros_twice W.work_list);
  wide = omega (arith, zeros_length W.marks);
  deep = omega (arith, zeros_length W.stack);
})

-- ---- what an analysis left

-- the room of an output, with the scratch
abbrev pub room_in : List ℕ → Table → Scratch → ℕ → Bool
room_in sheet t w = room_for (code_count sheet) t w.row_kinds w.row_values w.work_list

-- what `analyze_stage` promises
abbrev pub StageEnds : AnalysisKind → List ℕ → (ℕ → Fact) → Outcome → Table → Scratch → Outcome → StageLeft → Type 0
StageEnds which sheet f before T w o m =
    some (leaves o m) ≡ leaves_of (staged_by T w) (staged no_counts (zero_table T) (zero_scratch w)) (continue (λ _. stage which sheet (room_in sheet T w) f) (as_spent before))

pub staged_same : {a b : Counts} {t u : Table} {v w : Scratch} → staged a t v ≡ staged b u w → (a ≡ b) × (t ≡ u) × (v ≡ w)
staged_same e = (ap (λ (n : StageLeft). n.counted) e, ap (λ (n : StageLeft). n.output) e, ap (λ (n : StageLeft). n.scratch) e)

-- the scratch is zero again
pub still_clear : (T : Table) (W : Scratch) {w : Scratch} → w ≡ zero_scratch W → (spent : Spent Analysed) {outcome : Outcome} {given : Counts} {t : Table} {w' : Scratch}
    → some (leaves outcome (staged given t w')) ≡ leaves_of (staged_by T w) (staged no_counts (zero_table T) (zero_scratch w)) spent → w' ≡ zero_scratch W
unfolding staged_by
still_clear T W {w} wz spent e = left_same (staged_by T w) _ (λ (n : StageLeft). n.scratch) (zero_scratch w) (λ a. refl) refl spent e ∙ scratch_twice W wz

-- ---- what was found once

module _ {sheet : List ℕ} {sizes : Sizes} (accepted : Accepted sheet sizes) where
  pub few_code : sizes.code_count ≤ 4096
  few_code = (limited (measured accepted)).code_count_is

  -- a table of 4,096 has room for the length facts
  pub lengths_fit : {room : ℕ} → room ≡ 4096 → code_count sheet ≤ room
  lengths_fit r = omega (arith, few_code, (counted accepted.are).code_count_is)
