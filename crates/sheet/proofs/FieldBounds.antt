-- Each field lies inside the sheet.
-- Assumes nothing.
use mathlib.Core.List.{List}
use Prim.Native.Nat.{ℕ, ◌+◌, ◌*◌, ◌≤◌}
use native.Mathlib.Omega.{arith}
use lib.ListN.{length}
use Rattle.sheet.specs.Measured.{Measured}
use Rattle.sheet.specs.declared.Sizes.{Sizes}
use Rattle.sheet.proofs.SheetLength.{laid}

-- each array ends within the sheet, so that each of its entries lies in it
pub record ArraysInside (whole : ℕ) (s : Sizes) : Type 0 where
  pub code : 40 + 8 * s.code_count ≤ whole
  pub note_kinds : s.places.note_kinds + s.code_count ≤ whole
  pub note_as : s.places.note_as + 2 * s.code_count ≤ whole
  pub note_bs : s.places.note_bs + 2 * s.code_count ≤ whole
  pub write_counts : s.places.write_counts + 2 * s.code_count ≤ whole
  pub range_starts : s.places.range_starts + 2 * s.range_count ≤ whole
  pub range_lengths : s.places.range_lengths + 4 * s.range_count ≤ whole
  pub constant_kinds : s.places.constant_kinds + s.constant_count ≤ whole
  pub constant_values : s.places.constant_values + 8 * s.constant_count ≤ whole
  pub param_widths : s.places.param_widths + 2 * s.param_count ≤ whole
  pub param_kinds : s.places.param_kinds + s.param_count ≤ whole
  pub param_as : s.places.param_as + 2 * s.param_count ≤ whole
  pub param_bs : s.places.param_bs + 2 * s.param_count ≤ whole
  pub layout_lengths : s.places.layout_lengths + 2 * s.layout_count ≤ whole
  pub slot_kinds : s.places.slot_kinds + s.slot_kind_count ≤ whole

module _ {sheet : List ℕ} {sizes : Sizes} (m : Measured sheet sizes) where
  pub arrays_inside : ArraysInside (length sheet) sizes
  arrays_inside = let l = laid m in omega arith
