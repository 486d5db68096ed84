-- Where a place lies in tables, and question 9 of the constants' rows.
-- Assumes nothing.
use Rattle.std.specs.Prelude.{◌≡◌, Bool, true, List, ℕ, ◌*◌, ◌<◌, length}
use Rattle.std.proofs.Math.Option.{Option, none, some}
use Rattle.model.specs.Count.{every}
use Rattle.model.specs.Call.{Table}
use Rattle.model.specs.Lookup.{last_kind, place, tables_agree, row_named}
use Rattle.model.specs.declared.AnalysisKind.TheVariants.{Constant}

-- the slot at this place has a cell in each row
pub record HasColumn (t : Table) (j : ℕ) : Type 0 where
  pub below : j < length t.slots
  pub kinds_length : length t.kinds ≡ length t.present * length t.slots
  pub values_length : length t.values ≡ length t.present * length t.slots

-- a place among the slots, if there is one
abbrev pub Inside : Table → Option ℕ → Type 0
Inside t none = Unit {0}
Inside t (some j) = HasColumn t j

-- tables that agree, and the place of a slot in them
pub record Found (t : Table) (slot : ℕ) (at : Option ℕ) : Type 0 where
  pub agree : tables_agree t.slots t.present t.kinds t.values ≡ true
  pub is : at ≡ place t.slots slot
  pub inside : Inside t at

-- question 9 of the first count rows, as "fixed" asks it
unfoldable pub rows_named : ℕ → List ℕ → List ℕ → Option ℕ → ℕ → Bool
rows_named s present kinds j count = every (λ pc. row_named (last_kind Constant) s present kinds j pc) count
