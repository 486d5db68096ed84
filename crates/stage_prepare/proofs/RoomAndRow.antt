-- The closure's slots, question 8 and the entry row, as the code makes them.
-- Assumes nothing.
use Rattle.std.specs.Prelude.{Err, Ok}
use Rattle.budget.specs.declared.Refused.TheVariants.{NoRoom}
use mathlib.Core.Path.{◌≡◌, refl, sym, ap, ◌∙◌}
use mathlib.Core.Bool.{Bool, true, false}
use mathlib.Core.Logic.{◌⊎◌, inl, inr}
use mathlib.Core.List.{List, ◌∷◌, ◌++◌, map}
use mathlib.Core.Option.{Option, some}
use Prim.Native.Nat.{ℕ, zero, suc, ◌*◌, ◌≤◌, ◌<◌}
use native.Mathlib.Omega.{arith}
use lib.ListN.{length, replicate, take, drop}
use lib.Seq.{length-take-le}
use borrow.Author.Tests.{leb-true}
use Rattle.model.specs.Tables.{RowLies, RowSlices, row_slices}
use Rattle.model.specs.Sheet.{code_count}
use Rattle.model.specs.Fact.{unknown, kind, value, Row}
use Rattle.model.specs.Analyses.{unknown_row}
use Rattle.model.specs.Call.{work_list_room, zeros}
use Rattle.model.specs.Lookup.{ascends}
use Rattle.model.specs.declared.VerifierResources.{VerifierResources}
use Rattle.model.specs.declared.AnalysisKind.{AnalysisKind}
use Rattle.model.proofs.Tests.{both}
use Rattle.budget.specs.Outcome.{Outcome, refused_by, Leaves, leaves, leaves_of}
use Rattle.budget.proofs.Outcomes.{Left, covered, stopped, left_by, covered_leaves, stopped_leaves}
use Rattle.stage_memory.specs.Room.{room_by}
use Rattle.stage_entry.specs.First.{row_laid, zero_row}
use Rattle.stage_entry.proofs.RowsMade.{lies_of}
use Rattle.stage_prepare.specs.Begin.{entering, enter_if, enough, row_filled, cleared_row}
use Rattle.stage_prepare.specs.declared.Room.{Room}
use Rattle.stage_prepare.proofs.StageParts.{enters_at_once}
use Rattle.stage_prepare.proofs.ZeroFronts.{take_zero, front_cleared, front_filled, part_length, zero_filled}

-- ---- question 8, as inequalities

module _ (n s slots present kinds values row_kinds row_values list : ℕ) (e : room_by n s slots present kinds values row_kinds row_values list ≡ true) where
  -- each of the seven tests
  pub room_parts : (s ≤ slots) × (s ≤ row_kinds) × (s ≤ row_values) × (n ≤ present) × (n * s ≤ kinds) × (n * s ≤ values) × (work_list_room n s list ≡ true)
  unfolding room_by
  room_parts =
      let seven = both _ _ e in
      let six = both _ _ seven.0 in
      let five = both _ _ six.0 in
      let four = both _ _ five.0 in
      let three = both _ _ four.0 in
      let two = both _ _ three.0 in (
        leb-true s slots two.0,
        leb-true s row_kinds two.1,
        leb-true s row_values three.1,
        leb-true n present four.1,
        leb-true (n * s) kinds five.1,
        leb-true (n * s) values six.1,
        seven.1,
      )

-- what the code was answered, for what it was lent
module _ (n s : ℕ) (slots row_kinds row_values : List ℕ) (room : Room) {given : Bool}
    (asked : given ≡ room_by n s (length slots) room.present room.kinds room.values (length row_kinds) (length row_values) room.work_list) (yes : given ≡ true) where
  pub room_given : room_by n s (length slots) room.present room.kinds room.values (length row_kinds) (length row_values) room.work_list ≡ true
  room_given = sym asked ∙ yes

  pub places_fit : (s ≤ length slots) × (s ≤ length row_kinds) × (s ≤ length row_values)
  places_fit = let fit = room_parts n s _ _ _ _ _ _ _ room_given in (fit.0, fit.1, fit.2)

-- ---- the entry row

-- Unknown is zero
pub unknown_cells : (k : ℕ) → (map kind (replicate k unknown) ≡ replicate k 0) × (map value (replicate k unknown) ≡ replicate k 0)
unfolding kind value
unknown_cells zero = (refl, refl)
unknown_cells (suc k) = (ap (λ (xs : List ℕ). 0 ∷ xs) (unknown_cells k).0, ap (λ (xs : List ℕ). 0 ∷ xs) (unknown_cells k).1)

module _ (which : AnalysisKind) (sheet : List ℕ) (n s : ℕ) (all : n ≡ code_count sheet) (slots row_kinds row_values : List ℕ) (room : Room) (left : VerifierResources)
    (zk : row_kinds ≡ zeros row_kinds) (zv : row_values ≡ zeros row_values) where
  -- question 8, as the code asks it
  abbrev asked : Bool
  asked = room_by n s (length slots) room.present room.kinds room.values (length row_kinds) (length row_values) room.work_list

  same : asked ≡ enough room sheet slots row_kinds row_values s
  same = ap (λ (m : ℕ). room_by m s (length slots) room.present room.kinds room.values (length row_kinds) (length row_values) room.work_list) all

  abbrev goal : Option (Leaves RowSlices)
  goal = leaves_of (row_filled row_kinds row_values) (cleared_row row_kinds row_values) (enter_if (enough room sheet slots row_kinds row_values s) which sheet (take s slots) left)

  pub refused_room : asked ≡ false → some (leaves (Err (NoRoom left)) (row_slices row_kinds row_values)) ≡ goal
  unfolding enter_if leaves_of refused_by
  refused_room e = rw (sym same ∙ e) (cc)

  module _ (e : asked ≡ true) where
    slots_fit : s ≤ length slots
    slots_fit = (room_parts n s _ _ _ _ _ _ _ e).0

    with_room : leaves_of (row_filled row_kinds row_values) (cleared_row row_kinds row_values) (entering which sheet (take s slots) left) ≡ goal
    unfolding enter_if
    with_room = rw (sym same ∙ e)

    pub ended_at_once : (n ≡ 0) ⊎ (s ≡ 0) → some (leaves (Ok left) (row_slices row_kinds row_values)) ≡ goal
    ended_at_once none_here = covered_leaves _ _ (enters_at_once which sheet (take s slots) left (here none_here)) refl unknown_is ∙ with_room
      where
        here : (n ≡ 0) ⊎ (s ≡ 0) → (code_count sheet ≡ 0) ⊎ (length (take s slots) ≡ 0)
        here (inl h) = inl (sym all ∙ h)
        here (inr h) = inr (length-take-le s slots slots_fit ∙ h)

        unknown_is : row_slices row_kinds row_values ≡ row_filled row_kinds row_values (unknown_row (take s slots))
        unknown_is = unfold unknown_row in (
            let fit = room_parts n s _ _ _ _ _ _ _ e in
            rw (length-take-le s slots slots_fit) (
            let k = zero_filled s row_kinds fit.1 zk (unknown_cells s).0 in
            let v = zero_filled s row_values fit.2 zv (unknown_cells s).1 in cc))

    -- what the entry row asks
    pub entry_asks : s ≤ 65535 → (s ≤ length slots → ascends (take s slots) ≡ true) → (n ≡ 0 → ⊥) → (s ≡ 0 → ⊥)
        → (ascends (take s slots) ≡ true) × (row_slices (take s row_kinds) (take s row_values) ≡ zero_row (length (take s slots))) × (0 < n) × (0 < length (take s slots)) × (length (take s slots) ≤ 65535)
    entry_asks few up some_n some_s =
        let long : length (take s slots) ≡ s = length-take-le s slots slots_fit in
        let fit = room_parts n s _ _ _ _ _ _ _ e in (
          up slots_fit,
          rw (long, take_zero s row_kinds fit.1 zk, take_zero s row_values fit.2 zv),
          above n some_n,
          rw long (above s some_s),
          rw long few,
        )
      where
        above : (m : ℕ) → (m ≡ 0 → ⊥) → 0 < m
        above zero h = absurd (h refl)
        above (suc m) h = omega arith

    -- what the charges and the entry row leave in the first places is what they leave in the whole
    pub entered_row : {entered : Outcome} (rk rv : List ℕ)
        → some (leaves entered (row_slices rk rv)) ≡ leaves_of row_laid (zero_row (length (take s slots))) (entering which sheet (take s slots) left)
        → length (rk ++ drop s row_kinds) ≡ length row_kinds → length (rv ++ drop s row_values) ≡ length row_values
        → some (leaves entered (row_slices (rk ++ drop s row_kinds) (rv ++ drop s row_values))) ≡ goal
    entered_row {entered} rk rv h lk lv = go (left_by _ _ _ h) ∙ with_room
      where
        fit : (s ≤ length row_kinds) × (s ≤ length row_values)
        fit = let f = room_parts n s _ _ _ _ _ _ _ e in (f.1, f.2)

        long : length (take s slots) ≡ s
        long = length-take-le s slots slots_fit

        filled_is : (row : Row) → RowLies row (row_slices rk rv) → row_slices (rk ++ drop s row_kinds) (rv ++ drop s row_values) ≡ row_filled row_kinds row_values row
        filled_is row l = rw (front_filled s row_kinds fit.0 zk l.kinds_are (part_length s row_kinds fit.0 rk lk), front_filled s row_values fit.1 zv l.values_are (part_length s row_values fit.1 rv lv))

        zero_is : row_slices rk rv ≡ zero_row (length (take s slots)) → row_slices (rk ++ drop s row_kinds) (rv ++ drop s row_values) ≡ cleared_row row_kinds row_values
        zero_is m =
            let k = ap (λ (x : RowSlices). x.kinds) m ∙ ap (λ (j : ℕ). replicate j 0) long in
            let v = ap (λ (x : RowSlices). x.values) m ∙ ap (λ (j : ℕ). replicate j 0) long in
            rw (front_cleared s row_kinds fit.0 zk k, front_cleared s row_values fit.1 zv v)

        go : Left row_laid (zero_row (length (take s slots))) (entering which sheet (take s slots) left) entered (row_slices rk rv)
            → some (leaves entered (row_slices (rk ++ drop s row_kinds) (rv ++ drop s row_values)))
            ≡ leaves_of (row_filled row_kinds row_values) (cleared_row row_kinds row_values) (entering which sheet (take s slots) left)
        go (covered row rest c o m) = covered_leaves _ _ c o (filled_is row (lies_of m))
        go (stopped refusal rest c o m) = stopped_leaves (record { refusal = refusal; left = rest; came = c; is = o }) _ (zero_is m)
