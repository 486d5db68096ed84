-- Question 9 of the slots and the tables' lengths: what the tests show, and what a caller learns.
-- Assumes nothing.
use mathlib.Core.Path.{◌≡◌}
use mathlib.Core.Bool.{true, false, ◌&&◌}
use mathlib.Core.List.{List}
use Prim.Native.Nat.{ℕ, ◌*◌}
use lib.Dec.{eqb}
use lib.ListN.{length}
use borrow.Author.Tests.{eqb-true}
use Rattle.model.specs.Lookup.{ascends, tables_agree}
use Rattle.model.proofs.Tests.{both_left, both_right}

module _ (slots present kinds values : List ℕ) where
  pub unordered : ascends slots ≡ false → false ≡ tables_agree slots present kinds values
  unfolding tables_agree
  unordered h = rw h

  pub other_kinds_agree : ascends slots ≡ true → eqb (length kinds) (length present * length slots) ≡ false → false ≡ tables_agree slots present kinds values
  unfolding tables_agree
  other_kinds_agree h k = rw (h, k)

  pub by_values : ascends slots ≡ true → eqb (length kinds) (length present * length slots) ≡ true
      → eqb (length values) (length present * length slots) ≡ tables_agree slots present kinds values
  unfolding tables_agree
  by_values h k = rw (h, k)

  pub record Agreed : Type 0 where
    pub ordered : ascends slots ≡ true
    pub kinds_length : length kinds ≡ length present * length slots
    pub values_length : length values ≡ length present * length slots

  -- what a caller learns
  pub agreed : tables_agree slots present kinds values ≡ true → Agreed
  unfolding tables_agree
  agreed h =
      let both = both_left (ascends slots && eqb (length kinds) (length present * length slots)) _ h in record {
        ordered = both_left (ascends slots) _ both;
        kinds_length = eqb-true _ _ (both_right (ascends slots) _ both);
        values_length = eqb-true _ _ (both_right (ascends slots && eqb (length kinds) (length present * length slots)) _ h);
      }
