-- The output that the constant analysis leaves holds its tables.
-- Assumes nothing.
use Rattle.std.specs.Prelude.{is_err}
use mathlib.Core.Path.{◌≡◌, refl, sym, ap, ◌∙◌, subst}
use mathlib.Core.Bool.{Bool, false, false≢true}
use mathlib.Core.List.{List}
use Prim.Native.Nat.{ℕ, ◌*◌, ◌-◌}
use native.Mathlib.Omega.{arith}
use lib.ListN.{length, take, replicate}
use lib.Seq.{take_at}
use Rattle.model.specs.Sheet.{code_count, local_slots}
use Rattle.model.specs.Charges.{ok, ◌>>=◌, continue}
use Rattle.model.specs.Fact.{Fact, kind, value}
use Rattle.model.specs.Tables.{present_bytes, cells}
use Rattle.model.specs.Analyses.{Analysed, stage}
use Rattle.model.specs.Call.{Table, Scratch, counts, tables, filled, zero_table, filled_table, table}
use Rattle.model.specs.declared.VerifierResources.{VerifierResources}
use Rattle.model.specs.declared.AnalysisKind.TheVariants.{Constant}
use Rattle.model.specs.declared.Counts.{Counts}
use Rattle.model.proofs.Metered.{bound_parts}
use Rattle.finality.proofs.Cells.{length_present, length_cells}
use Rattle.finality.proofs.Call.{stage_made}
use Rattle.finality.proofs.Closure.{closure_exact}
use Rattle.finality.proofs.Lengths.{roomy, stage_room, stage_sized, stage_lengths}
use Rattle.sheet.specs.declared.Sizes.{Sizes}
use Rattle.sheet.specs.Measured.{Accepted}
use Rattle.sheet.proofs.AcceptedSheet.{measured}
use Rattle.sheet.proofs.SizeNames.{counted}
use Rattle.sheet.proofs.SizeLimits.{limited}
use Rattle.budget.specs.Outcome.{Outcome, as_spent}
use Rattle.budget.proofs.Outcomes.{Left, covered, stopped, left_by}
use Rattle.stage_prepare.proofs.ClosureSlots.{few_below}
use Rattle.stage_memory.specs.Stage.{zero_scratch}
use Rattle.stage_memory.specs.Staged.{no_counts, staged, staged_by}
use Rattle.call_order.specs.Stored.{Stored}
use Rattle.call_order.proofs.ClearedOutputs.{room_in, StageEnds, staged_same}

module _ (sheet : List ℕ) {sizes : Sizes} (accepted : Accepted sheet sizes) (old : Table) (w : Scratch) (f : ℕ → Fact) where
  abbrev enough : ℕ → Bool
  enough = room_in sheet old w

  abbrev StoredIn : Analysed → Counts → Table → Type 0
  StoredIn x given t = Stored sheet x given t

  filled_stored : (before : VerifierResources) (x : Analysed) (after : VerifierResources) → stage Constant sheet enough f before ≡ ok x after
      → StoredIn x (counts x) (filled_table (tables x) old)
  unfolding counts tables filled_table
  filled_stored before x after e =
      let made = stage_made Constant sheet enough f before x after e in
      let exact = closure_exact Constant sheet before x.slots made.closed made.tracked in
      let size = stage_sized Constant sheet enough f before x after e in
      let room = roomy (code_count sheet) old w.row_kinds w.row_values w.work_list (length x.slots) (stage_room Constant sheet enough f before x after e) in
      let same = stage_lengths Constant sheet old w.row_kinds w.row_values w.work_list f before x after e in
      record {
        tracked_is = refl;
        ascending = exact.ascending;
        few = omega (arith, few_below (local_slots sheet) x.slots exact.ascending exact.below, (counted accepted.are).local_slots_is, (limited (measured accepted)).local_slots_is);
        rows_count = size.0;
        slots_fit = omega (arith, room.0, same.slots);
        present_fits = omega (arith, room.1, same.present);
        kinds_fit = omega (arith, room.2, same.kinds);
        values_fit = omega (arith, room.3, same.values);
        slots_are = front x.slots old.slots (length x.slots) refl;
        lie = record {
          sized = size.1;
          present_are = front (present_bytes x.rows) old.present (code_count sheet) (length_present x.rows ∙ size.0);
          kinds_are = front (cells kind (length x.slots) x.rows) old.kinds (code_count sheet * length x.slots)
              (length_cells kind (length x.slots) x.rows size.1 ∙ ap (λ (n : ℕ). n * length x.slots) size.0);
          values_are = front (cells value (length x.slots) x.rows) old.values (code_count sheet * length x.slots)
              (length_cells value (length x.slots) x.rows size.1 ∙ ap (λ (n : ℕ). n * length x.slots) size.0);
        };
      }
    where
      front : (table xs : List ℕ) (k : ℕ) → length table ≡ k → take k (filled table xs) ≡ table
      front table xs k l = unfold filled in (take_at table (replicate (length xs - length table) 0) k l)

  module _ (before : Outcome) {given : Counts} {output : Table} {w' : Scratch} where
    -- after whatever was covered before
    pub output_stored : (x : Analysed) (after : VerifierResources) → continue (λ _. stage Constant sheet enough f) (as_spent before) ≡ ok x after
        → staged given output w' ≡ staged_by old w x → StoredIn x given output
    unfolding staged_by ◌>>=◌
    output_stored x after e m =
        let parts = bound_parts {part = λ _. as_spent before} {next = λ _. stage Constant sheet enough f} {budget = after} e in
        let same = staged_same m in
        subst (λ (t : Table). StoredIn x given t) (sym same.1)
        (subst (λ (g : Counts). StoredIn x g (filled_table (tables x) old)) (sym same.0) (filled_stored parts.rest x after parts.after))

    -- an outcome that is no refusal tells that they are there
    pub constants_stored : {o : Outcome} → StageEnds Constant sheet f before old w o (staged given output w') → is_err o ≡ false → (x : Analysed) × StoredIn x given output
    constants_stored {o} e goes = go (left_by (staged_by old w) _ _ e)
      where
        go : Left (staged_by old w) (staged no_counts (zero_table old) (zero_scratch w)) (continue (λ _. stage Constant sheet enough f) (as_spent before)) o (staged given output w')
            → (x : Analysed) × StoredIn x given output
        go (covered x left h is m) = (x, output_stored x left h m)
        go (stopped refusal left h is m) = absurd (false≢true (sym goes ∙ ap (λ (r : Outcome). is_err r) is))
