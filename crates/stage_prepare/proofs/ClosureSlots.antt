-- The closure's slots, and what follows it, as the code makes them.
-- Assumes nothing.
use Rattle.std.specs.Prelude.{Ok}
use mathlib.Core.Path.{◌≡◌, refl, sym, ap, ◌∙◌}
use mathlib.Core.Bool.{Bool, true, false}
use mathlib.Core.List.Memᴰ.{head}
use mathlib.Core.List.Memᴰ.{tail}
use mathlib.Core.List.{List, [], ◌∷◌, ◌++◌, Memᴰ as Member}
use mathlib.Core.Option.{Option, some}
use Prim.Native.Nat.{ℕ, ◌+◌, ◌≤◌, ◌<◌}
use native.Mathlib.Omega.{arith}
use lib.Dec.{leb, ltb}
use lib.ListN.{length, take, drop, length-append, length-drop}
use lib.Seq.{take-append_seam}
use borrow.Author.Tests.{leb-true, ltb-true, le-leb}
use Rattle.model.specs.Tables.{RowSlices}
use Rattle.model.specs.Sheet.{code_count, local_slots}
use Rattle.model.specs.Charges.{Spent, ok, give, continue, ◌>>=◌}
use Rattle.model.specs.Closure.{tracked_slots}
use Rattle.model.specs.Fact.{Row}
use Rattle.model.specs.Call.{zeros, filled}
use Rattle.model.specs.Lookup.{ascends}
use Rattle.model.specs.CallDemand.{TrackedExactly}
use Rattle.model.specs.declared.VerifierResources.{VerifierResources}
use Rattle.model.specs.declared.AnalysisKind.{AnalysisKind}
use Rattle.budget.specs.Outcome.{Outcome, Leaves, leaves, leaves_of}
use Rattle.budget.proofs.Outcomes.{NotCovered, covered_leaves, stopped_then, stopped_leaves, left_covered, left_stopped}
use Rattle.finality.proofs.Closure.{closure_exact}
use Rattle.finality.proofs.Lengths.{zeros_same}
use Rattle.sheet.specs.declared.Sizes.{Sizes}
use Rattle.sheet.specs.Measured.{Measured}
use Rattle.sheet.proofs.SizeNames.{counted}
use Rattle.sheet.proofs.SizeLimits.{limited}
use Rattle.model.proofs.Tests.{both_left, both_right}
use Rattle.closure_marks.specs.Slots.{fitted_if, fitted}
use Rattle.stage_memory.specs.Room.{room_by}
use Rattle.closure.specs.Closed.{Closed, closed, closed_by}
use Rattle.stage_prepare.specs.Begin.{enter_if, Begun, begin, enough, row_filled, cleared_row}
use Rattle.stage_prepare.specs.Prepare.{something, PrepareEnd, prepared, prepared_by, unprepared}
use Rattle.stage_prepare.specs.declared.Room.{Room}
use Rattle.stage_prepare.proofs.StageParts.{closure_tracked}
use Rattle.stage_prepare.proofs.RoomAndRow.{room_parts}
use Rattle.stage_prepare.proofs.ZeroFronts.{front_filled}

-- ---- ascending numbers below a bound are no more than it

last_below : (x bound : ℕ) (xs : List ℕ) → ascends (x ∷ xs) ≡ true → ((y : ℕ) → Member y (x ∷ xs) → y < bound) → x + length (x ∷ xs) ≤ bound
unfolding ascends
last_below x bound [] up h = omega (arith, h x (head refl))
last_below x bound (y ∷ ys) up h =
    let more = last_below y bound ys (both_right (ltb x y) _ up) (λ z m. h z (tail m)) in
    let step = ltb-true x y (both_left (ltb x y) _ up) in
    omega arith

pub few_below : (bound : ℕ) (xs : List ℕ) → ascends xs ≡ true → ((y : ℕ) → Member y xs → y < bound) → length xs ≤ bound
few_below bound [] up h = omega arith
few_below bound (x ∷ xs) up h = omega (arith, last_below x bound xs up h)

-- ---- slots that fit

module _ (tracked old : List ℕ) where
  fitted_length : length (fitted tracked old) ≡ length old
  unfolding fitted fitted_if
  fitted_length = go (leb (length tracked) (length old)) refl
    where
      go : (b : Bool) → leb (length tracked) (length old) ≡ b → length (fitted_if b tracked old) ≡ length old
      go true e =
          let h = leb-true (length tracked) (length old) e in
          length-append tracked (drop (length tracked) old) ∙ omega (arith, length-drop (length tracked) old)
      go false e = refl

  fitted_front : length tracked ≤ length old → fitted tracked old ≡ tracked ++ drop (length tracked) old
  unfolding fitted fitted_if
  fitted_front h = rw (le-leb (length tracked) (length old) h)

-- ---- what is begun

prepared_is : (n : ℕ) (slots row_kinds row_values : List ℕ) (b : Begun) {runs : Bool} {s : ℕ} {slots' : List ℕ} {memory : RowSlices}
    → runs ≡ something n s → s ≡ length b.slots → slots' ≡ filled b.slots slots → memory ≡ row_filled row_kinds row_values b.entry
    → prepared runs s slots' memory.kinds memory.values ≡ prepared_by n slots row_kinds row_values b
prepared_is n slots row_kinds row_values b r m t e = rw (r, m, t, e)

module _ (which : AnalysisKind) (sheet slots row_kinds row_values : List ℕ) (room : Room) (budget : VerifierResources) (no_slots : slots ≡ zeros slots) where
  abbrev goal : Option (Leaves PrepareEnd)
  goal = leaves_of (prepared_by (code_count sheet) slots row_kinds row_values) (unprepared slots row_kinds row_values)
      (begin which sheet (enough room sheet slots row_kinds row_values) budget)

  module _ {tracked : Outcome} {s : ℕ} {slots' : List ℕ} (came : some (leaves tracked (closed s slots')) ≡ leaves_of (closed_by slots) (closed 0 slots) (tracked_slots which sheet budget)) where
    -- the closure is refused
    pub begin_stopped : row_kinds ≡ zeros row_kinds → row_values ≡ zeros row_values → NotCovered tracked → some (leaves tracked (prepared false 0 slots' row_kinds row_values)) ≡ goal
    unfolding begin ◌>>=◌
    begin_stopped zk zv h =
        let u = left_stopped _ _ _ came h in
        let kept = ap (λ (c : Closed). c.slots) u.1 ∙ no_slots in
        stopped_leaves (stopped_then u.0 _) _ (cc)

    module _ {left : VerifierResources} (is : tracked ≡ Ok left) where
      done : (ts : List ℕ) × (tracked_slots which sheet budget ≡ ok ts left) × (closed s slots' ≡ closed_by slots ts)
      done = left_covered _ _ _ came is

      -- the tracked slots
      abbrev found : List ℕ
      found = done.0

      many : s ≡ length found
      many = ap (λ (c : Closed). c.s) done.2

      fits : slots' ≡ fitted found slots
      fits = ap (λ (c : Closed). c.slots) done.2

      exact : TrackedExactly which sheet found
      exact = closure_exact which sheet budget found left done.1

      pub few_tracked : {sizes : Sizes} → Measured sheet sizes → s ≤ 65535
      few_tracked m =
          let below = few_below (local_slots sheet) found exact.ascending exact.below in
          let most = rw (counted m.are).local_slots_is at (limited m).local_slots_is in
          omega (arith, many)

      long : length slots' ≡ length slots
      long = ap length fits ∙ fitted_length found slots

      front : s ≤ length slots → slots' ≡ found ++ drop s slots
      front h = fits ∙ fitted_front found slots (omega (arith, many)) ∙ ap (λ (k : ℕ). found ++ drop k slots) (sym many)

      taken : s ≤ length slots → take s slots' ≡ found
      taken h = ap (take s) (front h) ∙ ap (λ (k : ℕ). take k (found ++ drop s slots)) many ∙ take-append_seam found (drop s slots)

      pub tracked_ascend : s ≤ length slots' → ascends (take s slots') ≡ true
      tracked_ascend h = ap ascends (taken (omega (arith, long))) ∙ exact.ascending

      -- question 8, as the code asked it, and what follows it
      abbrev asked : Bool
      asked = enough room sheet slots' row_kinds row_values s

      abbrev entered : Bool → List ℕ → Spent Row
      entered b ts = enter_if b which sheet ts left

      asked_fits : asked ≡ true → s ≤ length slots
      asked_fits e = let fit = (room_parts (code_count sheet) s _ _ _ _ _ _ _ e).0 in omega (arith, long)

      asked_same : asked ≡ enough room sheet slots row_kinds row_values (length found)
      asked_same =
          ap (λ (k : ℕ). enough room sheet slots' row_kinds row_values k) many
          ∙ ap (λ (k : ℕ). room_by (code_count sheet) (length found) k room.present room.kinds room.values (length row_kinds) (length row_values) room.work_list) long

      same_entry : entered asked (take s slots') ≡ entered asked found
      unfolding enter_if
      same_entry = go asked refl
        where
          go : (b : Bool) → asked ≡ b → entered b (take s slots') ≡ entered b found
          go true e = ap (λ (ts : List ℕ). entered true ts) (taken (asked_fits e))
          go false e = refl

      begins : begin which sheet (enough room sheet slots row_kinds row_values) budget ≡ continue (λ entry. give (record { slots = found; entry = entry })) (entered asked (take s slots'))
      begins =
          closure_tracked which sheet (enough room sheet slots row_kinds row_values) budget found left done.1
          ∙ ap (continue (λ entry. give (record { slots = found; entry = entry }))) (ap (λ (b : Bool). entered b found) (sym asked_same) ∙ sym same_entry)

      module _ {outcome : Outcome} {memory : RowSlices} (row : some (leaves outcome memory) ≡ leaves_of (row_filled row_kinds row_values) (cleared_row row_kinds row_values) (entered asked (take s slots'))) where
        -- question 8, or a charge behind it, is refused
        pub begin_refused : {slots'' : List ℕ} → NotCovered outcome → slots'' ≡ zeros slots' → some (leaves outcome (prepared false 0 slots'' memory.kinds memory.values)) ≡ goal
        begin_refused h z =
            let u = left_stopped _ _ _ row h in
            let clear = z ∙ zeros_same slots' slots long in
            rw begins (stopped_leaves (stopped_then u.0 _) _ (rw (clear, u.1)))

        -- all is covered
        pub begin_covered : {rest : VerifierResources} {runs : Bool} → outcome ≡ Ok rest → runs ≡ something (code_count sheet) s
            → some (leaves outcome (prepared runs s slots' memory.kinds memory.values)) ≡ goal
        unfolding continue give
        begin_covered {rest} {runs} e r =
            let d = left_covered _ _ _ row e in
            let inside = asked_fits (had asked d.1) in
            let table = front inside ∙ front_filled s slots inside no_slots refl (sym many) in
            covered_leaves _ _ (begins ∙ ap (continue (λ entry. give (record { slots = found; entry = entry }))) d.1) e
            (prepared_is (code_count sheet) slots row_kinds row_values (record { slots = found; entry = d.0 }) r many table d.2)
          where
            had : (b : Bool) {entry : Row} → entered b (take s slots') ≡ ok entry rest → b ≡ true
            had true x = refl
            had false x = unfold enter_if in (let z : ◌≡◌ {A = ℕ} 0 1 = cc in absurd (omega arith))
