-- One step: the copy of a row goes through its transfer, then to each successor.
-- Assumes nothing.
use mathlib.Core.Path.{◌≡◌, refl, sym, ap, ◌∙◌, subst}
use mathlib.Core.List.{List}
use Prim.Native.Nat.{ℕ, ◌≤◌, ◌<◌}
use lib.ListN.{length, get_or, get_or-map}
use Rattle.model.specs.Sheet.{code_count}
use Rattle.model.specs.Successors.{sheet_successors}
use Rattle.model.specs.Fact.{Fact, Row}
use Rattle.model.specs.Tables.{TableSlices, RowSlices, RowLies, fact_in, facts_in, length_table}
use Rattle.model.specs.Transfer.{index_transfer, transfer_row}
use Rattle.model.specs.Analyses.{analysis}
use Rattle.model.specs.declared.AnalysisKind.{AnalysisKind}
use Rattle.model.specs.declared.FactCell.{FactCell}
use Rattle.model.specs.declared.InstructionSuccessors.{InstructionSuccessors}
use Rattle.model.specs.declared.AnalysisKind.TheVariants.{Constant, IndexCheck, Container}
use Rattle.finality.proofs.Lawful.{lawful}
use Rattle.sheet.proofs.SizeNames.{counted}
use Rattle.sheet_index.specs.declared.indexed.IndexedSheet.{IndexedSheet}
use Rattle.fact_row.specs.Rows.{ReadableRow}
use Rattle.sheet_layouts.specs.Classes.{equal_by}
use Rattle.sheet_layouts.proofs.Classes.{equal_by_lem}
use Rattle.fixpoint_step.specs.Visits.{SuccessorsRequires, SuccessorsEnsures}
use Rattle.fixpoint_step.specs.Stepped.{SheetIndex, StepRequires}
use Rattle.fixpoint_step.specs.Lengths.{lengths_in}
use Rattle.fixpoint_step.specs.declared.lengths.LengthFact.{LengthFact}
use Rattle.fixpoint_step.specs.OneStep.{sheet_of, lengths_of, StepEnsures, CopyEnsures}
use Rattle.fixpoint_step.specs.declared.tracked.TrackedAnalysis.{TrackedAnalysis}
use Rattle.fixpoint_step.proofs.VisitedTables.{row_part, part_lies}
use Rattle.model.proofs.Facts.{read_back, lies_back, lies_kinds, lies_values}

-- the length's fact of one instruction is all that its transfer reads
one_fact : (which : AnalysisKind) (sheet slots : List ℕ) (length_fact : ℕ → Fact) (p : ℕ) {f : Fact} → f ≡ length_fact p → (x : Row)
    → transfer_row which sheet slots (λ q. f) p x ≡ transfer_row which sheet slots length_fact p x
one_fact Constant sheet slots length_fact p e x = unfold transfer_row in refl
one_fact IndexCheck sheet slots length_fact p e x = unfold transfer_row index_transfer in rw e
one_fact Container sheet slots length_fact p e x = unfold transfer_row in refl

-- what is found once a call: the sheet's own, with room for the length facts
pub found : (indexed : IndexedSheet) {lengths : List LengthFact} → code_count indexed.sheet.now.bytes.now ≤ length lengths
    → SheetIndex indexed.sheet.now.bytes.now indexed.sheet.now.sizes indexed.firsts.now indexed.classes.now lengths
found indexed room = record {
  accepted = indexed.accepted;
  firsts_are = indexed.held;
  classes_are = indexed.classed;
  lengths_room = room;
}

-- all that a step asks
module _ (a : TrackedAnalysis) {p : ℕ} {t : TableSlices} {row : RowSlices} (q : StepRequires (code_count (sheet_of a)) (length a.slots.now) p t row) where
  -- what the transfer asks
  pub transfer_asks : let part = row_part (length a.slots.now) p t in
      (p < a.indexed.now.sheet.now.sizes.code_count)
      × (ReadableRow a.slots.now part.kinds part.values × (length row.kinds ≡ length a.slots.now) × (length row.values ≡ length a.slots.now))
  transfer_asks =
      let l = part_lies (length a.slots.now) p q.rows_lie q.stands in
      let z : length q.row_there ≡ length a.slots.now = q.rows_lie.sized p q.row_there q.stands in (
        rw (counted a.indexed.now.accepted.are).code_count_is q.below,
        (
          record { ascending = a.tracked.ascending; kinds_long = lies_kinds l ∙ z; values_long = lies_values l ∙ z; lies = lies_back l },
          q.row_kinds_length,
          q.row_values_length,
        ),
      )

  module _ {cell : FactCell} (own : (cell.kind ≡ (get_or a.lengths.now p (record { kind = 0; value = 0 })).kind) × (cell.value ≡ (get_or a.lengths.now p (record { kind = 0; value = 0 })).value)) (copy : RowSlices)
      (e : RowLies (transfer_row a.which (sheet_of a) a.slots.now (λ q. fact_in cell) p (facts_in (row_part (length a.slots.now) p t))) copy) where
    own_fact : fact_in cell ≡ lengths_of a p
    unfolding fact_in length_table lengths_in
    own_fact = rw (own.0, own.1, ← get_or-map (λ (f : LengthFact). f.kind) a.lengths.now p (record { kind = 0; value = 0 }), ← get_or-map (λ (f : LengthFact). f.value) a.lengths.now p (record { kind = 0; value = 0 })) refl

    -- the copy behind the transfer, of whatever rows lie there
    pub step_copies : CopyEnsures a p t copy
    unfolding CopyEnsures
    step_copies rows x l m =
        let z = ap (transfer_row a.which (sheet_of a) a.slots.now (λ q. fact_in cell) p) (read_back (part_lies (length a.slots.now) p l m)) ∙ one_fact a.which (sheet_of a) a.slots.now (lengths_of a) p own_fact x in
        (transferred_length x (l.sized p x m), subst (λ (r : Row). RowLies r copy) z e)
      where
        transferred_length : (x : Row) → length x ≡ length a.slots.now → length (transfer_row a.which (sheet_of a) a.slots.now (lengths_of a) p x) ≡ length a.slots.now
        transferred_length x h = unfold analysis in ((lawful a.which (sheet_of a) a.slots.now (lengths_of a) x h).transfer_length p x h)

    -- it is p's row behind the transfer, and has s facts
    copy_lies : RowLies (transfer_row a.which (sheet_of a) a.slots.now (lengths_of a) p q.row_there) copy
    unfolding CopyEnsures
    copy_lies = (step_copies q.rows q.row_there q.rows_lie q.stands).1

    copy_length : (length copy.kinds ≡ length a.slots.now) × (length copy.values ≡ length a.slots.now)
    unfolding CopyEnsures
    copy_length = let z = (step_copies q.rows q.row_there q.rows_lie q.stands).0 in (lies_kinds copy_lies ∙ z, lies_values copy_lies ∙ z)

    -- what the visits ask
    pub visiting : SuccessorsRequires (sheet_of a) p t copy
    visiting =
        let w = copy_length in record {
          below = q.below;
          little = a.tracked.little;
          present_length = q.present_length;
          visitable = record {
            row_values_length = w.1 ∙ sym w.0;
            kinds_length = rw (w.0, q.present_length) q.kinds_length;
            values_length = rw (w.0, q.present_length) q.values_length;
            rows = q.rows;
            copy = transfer_row a.which (sheet_of a) a.slots.now (lengths_of a) p q.row_there;
            rows_lie = rw w.0 q.rows_lie;
            copy_lies = copy_lies;
          };
        }

    -- what they make of it is the step
    pub step_visits : (t' : TableSlices) (r : InstructionSuccessors) → SuccessorsEnsures (equal_by a.which a.indexed.now.classes.now) (sheet_successors (sheet_of a) p) t copy t' r
        → StepEnsures a p t t' r
    unfolding SuccessorsEnsures StepEnsures CopyEnsures
    step_visits t' r o rows x l m =
        (rw (copy_length.0, equal_by_lem a.indexed.now.classed a.which) at o) rows (transfer_row a.which (sheet_of a) a.slots.now (lengths_of a) p x) l (step_copies rows x l m).1
