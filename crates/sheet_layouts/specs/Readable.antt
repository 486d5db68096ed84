-- What the search for a layout of equal content asks: the sheet, its sizes and where its layouts begin.
-- Assumes nothing.
use Rattle.std.specs.Prelude.{List, ℕ}
use Rattle.model.specs.Sheet.{layout_start, layout_count}
use Rattle.memory.specs.Front.{Holds}
use Rattle.sheet.specs.Measured.{Accepted}
use Rattle.sheet.specs.declared.Sizes.{Sizes}

-- a sheet that questions 1 to 5 leave, with its sizes, and the table that `layout_starts` fills
pub record Readable (sheet : List ℕ) (sizes : Sizes) (starts : List ℕ) : Type 0 where
  pub accepted : Accepted sheet sizes
  pub begins : Holds (layout_start sheet) (layout_count sheet) starts
