-- The length facts from the output of the constant analysis.
-- Assumes nothing.
use mathlib.Core.Path.{◌≡◌, refl, sym, ap, ap₂, ◌∙◌}
use mathlib.Core.List.{List}
use mathlib.Core.Option.{Option}
use Prim.Native.Nat.{ℕ, ◌*◌, ◌^◌, ◌≤◌, ◌<◌}
use native.Mathlib.Nat.{mul-le-mul_right}
use native.Mathlib.Omega.{arith}
use lib.ListN.{length, take}
use lib.Seq.{length-take-le}
use mathlib.Core.Bool.{Bool, true, false}
use Rattle.std.specs.Prelude.{is_err}
use Rattle.budget.specs.Outcome.{Outcome}
use Rattle.model.specs.Call.{Table, table}
use Rattle.model.specs.Sheet.{code_count, instruction}
use Rattle.model.specs.Fact.{Row}
use Rattle.model.specs.Lookup.{ascends}
use Rattle.model.specs.Analyses.{Analysed, length_facts}
use Rattle.model.specs.Transfer.{checked_from}
use Rattle.model.specs.declared.Counts.{Counts}
use Rattle.fixpoint_step.specs.Lengths.{lengths_in}
use Rattle.fixpoint_step.specs.declared.lengths.LengthFact.{LengthFact}
use Rattle.call_order.specs.Lengths.{EndedRows, lengths_stored}
use Rattle.model.specs.Tables.{table_slices}
use Rattle.call_order.specs.Stored.{Stored, Lengthened}

-- the first places of the output of an ended analysis: n × s does not wrap, they are there, and they are a table
pub record Fronts (n s : ℕ) (t : Table) : Type 0 where
  pub cells_fit : n * s < 2 ^ 64
  pub present_fits : n ≤ length t.present
  pub kinds_fit : n * s ≤ length t.kinds
  pub values_fit : n * s ≤ length t.values
  pub ascending : ascends (take s t.slots) ≡ true
  pub kinds_long : length (take (n * s) t.kinds) ≡ length (take n t.present) * length (take s t.slots)
  pub values_long : length (take (n * s) t.values) ≡ length (take n t.present) * length (take s t.slots)

module _ {sheet : List ℕ} {a : Analysed} {given : Counts} {slots present kinds values : List ℕ} (st : Stored sheet a given (table slots present kinds values)) {n s : ℕ} (all : n ≡ code_count sheet)
    (is : s ≡ given.tracked) where
  many : s ≡ length a.slots
  many = is ∙ st.tracked_is

  cells_are : n * s ≡ code_count sheet * length a.slots
  cells_are = ap₂ ◌*◌ all many

  slots_are : take s slots ≡ a.slots
  slots_are = ap (λ (m : ℕ). take m slots) many ∙ st.slots_are

  pub stored_ended : EndedRows (take s slots) a.rows (table_slices (take n present) (take (n * s) kinds) (take (n * s) values))
  stored_ended = rw (slots_are, cells_are, all, st.lie.present_are, st.lie.kinds_are, st.lie.values_are) (record {
    ascending = st.ascending;
    lie = record { sized = st.lie.sized; present_are = refl; kinds_are = refl; values_are = refl };
  })

  pub fronts : n ≤ 4096 → Fronts n s (table slots present kinds values)
  fronts few =
      let slots_fit : s ≤ length slots = omega (arith, many, st.slots_fit) in
      let present_fits : n ≤ length present = omega (arith, all, st.present_fits) in
      let kinds_fit : n * s ≤ length kinds = omega (arith, cells_are, st.kinds_fit) in
      let values_fit : n * s ≤ length values = omega (arith, cells_are, st.values_fit) in
      let cells = ap₂ ◌*◌ (length-take-le n present present_fits) (length-take-le s slots slots_fit) in
      record {
        cells_fit = let little : s ≤ 65535 = omega (arith, many, st.few) in omega (arith, mul-le-mul_right s few);
        present_fits = present_fits;
        kinds_fit = kinds_fit;
        values_fit = values_fit;
        ascending = stored_ended.ascending;
        kinds_long = length-take-le _ _ kinds_fit ∙ sym cells;
        values_long = length-take-le _ _ values_fit ∙ sym cells;
      }

  -- what was stored, by the analysis
  pub lengthened : {lengths lengths' : List LengthFact}
      → ((rows : List (Option Row)) → EndedRows (take s slots) rows (table_slices (take n present) (take (n * s) kinds) (take (n * s) values))
      → lengths' ≡ lengths_stored sheet (take s slots) rows lengths)
      → ((constants : Analysed) → constants.slots ≡ take s slots → EndedRows (take s slots) constants.rows (table_slices (take n present) (take (n * s) kinds) (take (n * s) values))
      → (pc : ℕ) → pc < code_count sheet → (instruction sheet pc).op ≡ 121 → checked_from (lengths_in lengths' pc) ≡ checked_from (length_facts sheet constants pc))
      → Lengthened sheet a lengths lengths'
  lengthened {lengths} stores reads = record {
    lengths_are = stores a.rows stored_ended ∙ ap (λ (xs : List ℕ). lengths_stored sheet xs a.rows lengths) slots_are;
    read = λ pc below op. reads a (sym slots_are) stored_ended pc below op;
  }

-- the output of an analysis that the code finds not refused
pub stored_there : {sheet : List ℕ} {given : Counts} {t : Table} (before : Outcome) {refused : Bool} → (is_err before ≡ false → (a : Analysed) × Stored sheet a given t) → refused ≡ is_err before → refused ≡ false
    → (a : Analysed) × Stored sheet a given t
stored_there before stored test goes = stored (sym test ∙ goes)
