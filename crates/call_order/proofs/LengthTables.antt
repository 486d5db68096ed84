-- The table of length facts: the loop that fills it, and what it reads as.
-- Assumes nothing.
use mathlib.Core.Path.{◌≡◌, refl, sym, ap, ◌∙◌}
use mathlib.Core.List.{List}
use mathlib.Core.Option.{Option}
use Prim.Native.Nat.{ℕ, ◌+◌, ◌≤◌, ◌<◌}
use native.Mathlib.Omega.{arith}
use lib.ListN.{length, set, length-set, get_or-map}
use borrow.Author.Tests.{eq-eqb, ne_eqb}
use Rattle.model.specs.Fact.{Fact, unknown, Row}
use Rattle.model.specs.Sheet.{code_count, instruction}
use Rattle.model.specs.Run.{row_at}
use Rattle.model.specs.Tables.{fact_in, cell_of, length_table, table_slices}
use Rattle.model.specs.Analyses.{Analysed, row_fact, length_facts}
use Rattle.model.specs.Transfer.{checked_from}
use Rattle.model.specs.declared.FactCell.{FactCell}
use Rattle.memory.specs.Front.{front}
use Rattle.memory.proofs.Front.{get_d_front, front_none, front_more}
use Rattle.fixpoint_step.specs.Lengths.{lengths_in}
use Rattle.fixpoint_step.specs.declared.lengths.LengthFact.{LengthFact}
use Rattle.call_order.specs.Lengths.{EndedRows, length_fact_if, length_fact, stored_fact, lengths_stored}
use Rattle.fact_row.proofs.CheckedLengths.{checked_twice}
use Rattle.model.proofs.Facts.{fact_back}

-- ---- one fact

-- what an IndexCheck makes of the fact in a cell
pub checked_of : {cell r : FactCell} (f : Fact) → cell ≡ cell_of f → r ≡ cell_of (checked_from (fact_in cell)) → r ≡ cell_of (checked_from f)
unfolding fact_in cell_of
checked_of f e k = k ∙ ap (λ (c : FactCell). cell_of (checked_from (fact_in c))) e ∙ ap (λ (g : Fact). cell_of (checked_from g)) (fact_back f)

module _ (sheet slots : List ℕ) (rows : List (Option Row)) (pc : ℕ) where
  pub check_fact : (instruction sheet pc).op ≡ 121 → checked_from (row_fact slots (row_at rows pc) (instruction sheet pc).b) ≡ length_fact sheet slots rows pc
  unfolding length_fact length_fact_if
  check_fact e = rw (eq-eqb (instruction sheet pc).op 121 e)

  pub other_fact : ((instruction sheet pc).op ≡ 121 → ⊥) → unknown ≡ length_fact sheet slots rows pc
  unfolding length_fact length_fact_if
  other_fact e = rw (ne_eqb (instruction sheet pc).op 121 e)

-- a cell, as it is stored
abbrev stored_as : FactCell → LengthFact
stored_as c = record { kind = c.kind; value = c.value }

stored_cell : {cell : FactCell} (f : Fact) → cell ≡ cell_of f → stored_as cell ≡ stored_fact f
unfolding cell_of
stored_cell f e = ap stored_as e

-- ---- the loop

module _ (sheet slots present kinds values : List ℕ) (n : ℕ) (old : List LengthFact) where
  -- after pc turns
  pub record StoredUpto (lengths : List LengthFact) (pc : ℕ) : Type 0 where
    pub within : pc ≤ n
    pub room : n ≤ length old
    pub long : length lengths ≡ length old
    pub are : (rows : List (Option Row)) → EndedRows slots rows (table_slices present kinds values) → lengths ≡ front (λ i. stored_fact (length_fact sheet slots rows i)) pc old

  pub stored_none : n ≤ length old → StoredUpto old 0
  stored_none h = record { within = omega arith; room = h; long = refl; are = λ rows e. front_none _ old }

  module _ {lengths : List LengthFact} {pc : ℕ} (s : StoredUpto lengths pc) where
    pub stored_more : pc < n → {cell : FactCell} → ((rows : List (Option Row)) → EndedRows slots rows (table_slices present kinds values) → cell ≡ cell_of (length_fact sheet slots rows pc))
        → StoredUpto (set lengths pc (stored_as cell)) (pc + 1)
    stored_more h {cell} is = record {
      within = omega arith;
      room = s.room;
      long = length-set lengths pc _ ∙ s.long;
      are = λ rows e. front_more _ pc old (s.are rows e) (stored_cell (length_fact sheet slots rows pc) (is rows e));
    }

    pub stored_all : n ≤ pc → n ≡ code_count sheet → (rows : List (Option Row)) → EndedRows slots rows (table_slices present kinds values) → lengths ≡ lengths_stored sheet slots rows old
    unfolding lengths_stored
    stored_all h m rows e = let p : pc ≡ code_count sheet = omega (arith, s.within) in rw p at s.are rows e

-- ---- what it reads as

-- At an IndexCheck it reads as what that makes of the ended constant run's fact of b.
pub lengths_read : (sheet : List ℕ) (constants : Analysed) {slots : List ℕ} → constants.slots ≡ slots → (old : List LengthFact) → code_count sheet ≤ length old
    → {lengths : List LengthFact} → lengths ≡ lengths_stored sheet slots constants.rows old
    → (pc : ℕ) → pc < code_count sheet → (instruction sheet pc).op ≡ 121 → checked_from (lengths_in lengths pc) ≡ checked_from (length_facts sheet constants pc)
unfolding lengths_stored lengths_in length_table length_facts
lengths_read sheet constants {slots} same old h {lengths} p pc l o =
    let none : LengthFact = record { kind = 0; value = 0 } in
    rw (
      get_or-map (λ (f : LengthFact). f.kind) lengths pc none,
      get_or-map (λ (f : LengthFact). f.value) lengths pc none,
      p,
      get_d_front (λ i. stored_fact (length_fact sheet slots constants.rows i)) (code_count sheet) old pc none l h,
      fact_back (length_fact sheet slots constants.rows pc),
      same,
    )
    (ap checked_from (sym (check_fact sheet slots constants.rows pc o)) ∙ checked_twice (row_fact slots (row_at constants.rows pc) (instruction sheet pc).b))
