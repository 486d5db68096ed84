-- What the readers ask of a sheet and its sizes.
-- Assumes nothing.
use Rattle.std.specs.Prelude.{◌≡◌, true, List, ℕ, length}
use Rattle.std.proofs.Math.Option.{none}
use Rattle.model.specs.Sheet.{within_limits, limits, sheet_length, sheet_refusal}
use Rattle.sheet.specs.Sizes.{sizes_of}
use Rattle.sheet.specs.declared.Sizes.{Sizes}

-- What questions 1 to 3 leave. It is enough to read each field; questions 4 and 5 read them to be answered.
pub record Measured (sheet : List ℕ) (sizes : Sizes) : Type 0 where
  pub are : sizes ≡ sizes_of sheet
  pub within : within_limits sheet 0 limits ≡ true
  pub long : length sheet ≡ sheet_length sheet

-- What questions 1 to 5 leave.
pub record Accepted (sheet : List ℕ) (sizes : Sizes) : Type 0 where
  pub are : sizes ≡ sizes_of sheet
  pub accepted : sheet_refusal sheet ≡ none
