-- Question 3: "arrays without gaps", and the whole sheet.
-- Assumes nothing.
use mathlib.Core.Path.{◌≡◌, sym, subst}
use mathlib.Core.List.{List}
use Prim.Native.Nat.{ℕ, ◌+◌, ◌*◌, ◌<◌}
use native.Mathlib.Omega.{arith}
use lib.ListN.{length}
use Rattle.model.specs.Sheet.{sheet_length, code_at}
use Rattle.model.specs.Sheet.{note_kinds_at, note_as_at, note_bs_at, write_counts_at, range_starts_at, range_lengths_at, constant_kinds_at, constant_values_at}
use Rattle.model.specs.Sheet.{param_widths_at, param_kinds_at, param_as_at, param_bs_at, layout_lengths_at, slot_kinds_at}
use Rattle.sheet.specs.Sizes.{places_of, sizes_of}
use Rattle.sheet.specs.Measured.{Measured}
use Rattle.sheet.specs.declared.Sizes.{Sizes}
use Rattle.sheet.proofs.SizeLimits.{Limited}

-- each array begins where the one before it ends, and the last ends with the sheet
pub record Laid (whole : ℕ) (s : Sizes) : Type 0 where
  pub note_kinds : s.places.note_kinds ≡ 40 + 8 * s.code_count
  pub note_as : s.places.note_as ≡ s.places.note_kinds + s.code_count
  pub note_bs : s.places.note_bs ≡ s.places.note_as + 2 * s.code_count
  pub write_counts : s.places.write_counts ≡ s.places.note_bs + 2 * s.code_count
  pub range_starts : s.places.range_starts ≡ s.places.write_counts + 2 * s.code_count
  pub range_lengths : s.places.range_lengths ≡ s.places.range_starts + 2 * s.range_count
  pub constant_kinds : s.places.constant_kinds ≡ s.places.range_lengths + 4 * s.range_count
  pub constant_values : s.places.constant_values ≡ s.places.constant_kinds + s.constant_count
  pub param_widths : s.places.param_widths ≡ s.places.constant_values + 8 * s.constant_count
  pub param_kinds : s.places.param_kinds ≡ s.places.param_widths + 2 * s.param_count
  pub param_as : s.places.param_as ≡ s.places.param_kinds + s.param_count
  pub param_bs : s.places.param_bs ≡ s.places.param_as + 2 * s.param_count
  pub layout_lengths : s.places.layout_lengths ≡ s.places.param_bs + 2 * s.param_count
  pub slot_kinds : s.places.slot_kinds ≡ s.places.layout_lengths + 2 * s.layout_count
  pub ends : whole ≡ s.places.slot_kinds + s.slot_kind_count

of_sheet : (sheet : List ℕ) → Laid (sheet_length sheet) (sizes_of sheet)
unfolding sizes_of places_of code_at note_kinds_at note_as_at note_bs_at write_counts_at range_starts_at range_lengths_at constant_kinds_at constant_values_at
    param_widths_at param_kinds_at param_as_at param_bs_at layout_lengths_at slot_kinds_at sheet_length
of_sheet sheet = omega arith

pub laid_by : (sheet : List ℕ) {sizes : Sizes} → sizes ≡ sizes_of sheet → Laid (sheet_length sheet) sizes
laid_by sheet e = subst (λ (s : Sizes). Laid (sheet_length sheet) s) (sym e) (of_sheet sheet)

pub laid : {sheet : List ℕ} {sizes : Sizes} → Measured sheet sizes → Laid (length sheet) sizes
laid {sheet} m = rw m.long (laid_by sheet m.are)

-- within their limits the sizes give a short sheet, so that no sum of them wraps
pub short : {whole : ℕ} {s : Sizes} → Limited s → Laid whole s → s.places.slot_kinds + s.slot_kind_count < 1048576
short l p = omega arith
