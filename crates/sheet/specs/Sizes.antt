-- The sizes of a sheet, and where its arrays begin.
-- Assumes nothing.
use Rattle.std.specs.Prelude.{List, ℕ}
use Rattle.model.specs.Sheet.{code_count, range_count, constant_count, param_count, layout_count, slot_kind_count, local_slots, param_slots, recv_slots, is_closure}
use Rattle.model.specs.Sheet.{note_kinds_at, note_as_at, note_bs_at, write_counts_at, range_starts_at, range_lengths_at, constant_kinds_at, constant_values_at}
use Rattle.model.specs.Sheet.{param_widths_at, param_kinds_at, param_as_at, param_bs_at, layout_lengths_at, slot_kinds_at}
use Rattle.sheet.specs.declared.Places.{Places}
use Rattle.sheet.specs.declared.Sizes.{Sizes}

-- where each array begins
unfoldable pub places_of : List ℕ → Places
places_of sheet = record {
  note_kinds = note_kinds_at sheet;
  note_as = note_as_at sheet;
  note_bs = note_bs_at sheet;
  write_counts = write_counts_at sheet;
  range_starts = range_starts_at sheet;
  range_lengths = range_lengths_at sheet;
  constant_kinds = constant_kinds_at sheet;
  constant_values = constant_values_at sheet;
  param_widths = param_widths_at sheet;
  param_kinds = param_kinds_at sheet;
  param_as = param_as_at sheet;
  param_bs = param_bs_at sheet;
  layout_lengths = layout_lengths_at sheet;
  slot_kinds = slot_kinds_at sheet;
}

-- the ten sizes, and the places
unfoldable pub sizes_of : List ℕ → Sizes
sizes_of sheet = record {
  code_count = code_count sheet;
  range_count = range_count sheet;
  constant_count = constant_count sheet;
  param_count = param_count sheet;
  layout_count = layout_count sheet;
  slot_kind_count = slot_kind_count sheet;
  local_slots = local_slots sheet;
  param_slots = param_slots sheet;
  recv_slots = recv_slots sheet;
  is_closure = is_closure sheet;
  places = places_of sheet;
}
