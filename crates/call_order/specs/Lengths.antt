-- The constants' facts that the index analysis reads: the tables they come from, and the tables they are stored in.
-- Assumes nothing.
use Rattle.std.specs.Prelude.{◌≡◌, Bool, true, false, List, ℕ, eqb, length}
use Rattle.std.proofs.Math.Option.{Option}
use Rattle.model.specs.Fact.{Fact, unknown, kind, value, Row}
use Rattle.model.specs.Sheet.{code_count, instruction}
use Rattle.model.specs.Opcode as O
use Rattle.model.specs.Run.{row_at}
use Rattle.model.specs.Tables.{TableSlices, RowsLie}
use Rattle.model.specs.Analyses.{row_fact}
use Rattle.model.specs.Transfer.{checked_from}
use Rattle.model.specs.Lookup.{ascends}
use Rattle.memory.specs.Front.{front}
use Rattle.fixpoint_step.specs.declared.lengths.LengthFact.{LengthFact}

-- The rows of an ended run as they lie in memory: s facts to a row, and zeros for an absent one.
pub record EndedRows (slots : List ℕ) (rows : List (Option Row)) (t : TableSlices) : Type 0 where
  pub ascending : ascends slots ≡ true
  pub lie : RowsLie (length slots) rows t

-- what IndexCheck makes of the fact of b, where the test holds
unfoldable pub length_fact_if : Bool → List ℕ → List ℕ → List (Option Row) → ℕ → Fact
length_fact_if true sheet slots rows pc = checked_from (row_fact slots (row_at rows pc) (instruction sheet pc).b)
length_fact_if false sheet slots rows pc = unknown

-- "IndexCheck then sets a from the constant analysis at that instruction.": no other instruction reads its fact, so Unknown stands there
unfoldable pub length_fact : List ℕ → List ℕ → List (Option Row) → ℕ → Fact
length_fact sheet slots rows pc = length_fact_if (eqb (instruction sheet pc).op O.IndexCheck) sheet slots rows pc

-- a fact as it is stored
abbrev pub stored_fact : Fact → LengthFact
stored_fact f = record { kind = kind f; value = value f }

-- they, in the first n places
unfoldable pub lengths_stored : List ℕ → List ℕ → List (Option Row) → List LengthFact → List LengthFact
lengths_stored sheet slots rows old = front (λ pc. stored_fact (length_fact sheet slots rows pc)) (code_count sheet) old
