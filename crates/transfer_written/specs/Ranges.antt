-- Written slots as ranges.
-- Assumes nothing.
use Rattle.std.specs.Prelude.{◌≡◌, Bool, List, ℕ, ◌+◌, ◌≤◌, ◌<◌}
use Rattle.model.specs.Sheet.{range_start, range_length}
use Rattle.model.specs.Written.{in_range, in_ranges}
use Rattle.sheet.specs.declared.Sizes.{Sizes}
use Rattle.transfer_written.specs.declared.SlotRange.{SlotRange}
use Rattle.transfer_written.specs.declared.Written.{Written}
use Rattle.transfer_written.specs.declared.Written.TheVariants.{Span, Ranges}

-- whether the slot is among them
unfoldable pub holds_slot : Written → List ℕ → ℕ → Bool
holds_slot (Span start count) sheet slot = in_range slot start count
holds_slot (Ranges first count) sheet slot = in_ranges sheet slot first count

-- how many ranges they are
unfoldable pub slot_range_count : Written → ℕ
slot_range_count (Span start count) = 1
slot_range_count (Ranges first count) = count

-- the i-th of them
unfoldable pub slot_range : Written → List ℕ → ℕ → SlotRange
slot_range (Span start count) sheet i = record { start = start; count = count }
slot_range (Ranges first count) sheet i = record { start = range_start sheet (first + i); count = range_length sheet (first + i) }

-- the end of those of the sheet
unfoldable pub ranges_end : Written → ℕ
ranges_end (Span start count) = 0
ranges_end (Ranges first count) = first + count

-- they are the slots of which the test holds, and their ranges are among the sheet's. No slot lies past 65,535.
pub record SlotsAre (w : Written) (sheet : List ℕ) (sizes : Sizes) (test : ℕ → Bool) : Type 0 where
  pub slots : (slot : ℕ) → slot < 65536 → holds_slot w sheet slot ≡ test slot
  pub fits : ranges_end w ≤ sizes.range_count
