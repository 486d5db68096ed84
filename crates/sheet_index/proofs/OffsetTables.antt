-- What stands in the tables that are found once a call.
-- Assumes nothing.
use mathlib.Core.Path.{◌≡◌}
use mathlib.Core.List.{List}
use Prim.Native.Nat.{ℕ, ◌≤◌}
use lib.ListN.{length}
use Rattle.memory.specs.Front.{Holds}
use Rattle.memory.proofs.Front.{front_holds}
use Rattle.model.specs.Sheet.{code_count, first_range, layout_count, layout_start}
use Rattle.sheet_index.specs.Tables.{first_ranges, layout_starts}

module _ (sheet old : List ℕ) {table : List ℕ} where
  pub first_ranges_hold : table ≡ first_ranges sheet old → code_count sheet ≤ length old → Holds (first_range sheet) (code_count sheet) table
  unfolding first_ranges
  first_ranges_hold e h = front_holds (first_range sheet) (code_count sheet) old h e

  pub layout_starts_hold : table ≡ layout_starts sheet old → layout_count sheet ≤ length old → Holds (layout_start sheet) (layout_count sheet) table
  unfolding layout_starts
  layout_starts_hold e h = front_holds (layout_start sheet) (layout_count sheet) old h e
