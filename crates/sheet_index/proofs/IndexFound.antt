-- What `index_sheet` leaves is what the analyses ask of it.
-- Assumes nothing.
use mathlib.Core.Path.{◌≡◌}
use mathlib.Core.List.{List}
use Prim.Native.Nat.{ℕ, ◌≤◌, ◌<◌}
use native.Mathlib.Omega.{arith}
use lib.ListN.{length}
use Rattle.model.specs.Sheet.{code_count, first_range}
use Rattle.memory.specs.Front.{Holds}
use Rattle.sheet.specs.Measured.{Accepted}
use Rattle.sheet.specs.declared.Sizes.{Sizes}
use Rattle.sheet.proofs.AcceptedSheet.{measured}
use Rattle.sheet.proofs.SizeNames.{counted}
use Rattle.sheet.proofs.SizeLimits.{limited}
use Rattle.sheet_index.specs.Tables.{first_ranges}
use Rattle.sheet_index.proofs.OffsetTables.{first_ranges_hold}
use Rattle.sheet_layouts.specs.Classes.{layout_classes, Classes}
use Rattle.sheet_layouts.proofs.Classes.{layout_classes_hold}

module _ {sheet : List ℕ} {sizes : Sizes} (accepted : Accepted sheet sizes) where
  -- 1,025 classes are enough: one for each of at most 1,024 layouts, and one for the numbers that name none
  pub few_layouts : sizes.layout_count < 1025
  few_layouts = omega (arith, (limited (measured accepted)).layout_count_is)

  pub firsts_found : (old : List ℕ) {firsts : List ℕ} → sizes.code_count ≤ length old → firsts ≡ first_ranges sheet old → Holds (first_range sheet) (code_count sheet) firsts
  firsts_found old h e = first_ranges_hold sheet old e (omega (arith, (counted accepted.are).code_count_is))

  pub classes_found : (old : List ℕ) {classes : List ℕ} → sizes.layout_count < length old → classes ≡ layout_classes sheet old → Classes sheet classes
  classes_found old h e = layout_classes_hold sheet old e (omega (arith, (counted accepted.are).layout_count_is))
