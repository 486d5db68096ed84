-- The places as they are computed, from the sizes as they are read.
-- Assumes nothing.
use mathlib.Core.Path.{◌≡◌}
use mathlib.Core.List.{List}
use Prim.Native.Nat.{ℕ, ◌+◌, ◌*◌}
use native.Mathlib.Omega.{arith}
use Rattle.model.specs.Sheet.{size, code_at}
use Rattle.model.specs.Sheet.{code_count, range_count, constant_count, param_count, layout_count}
use Rattle.model.specs.Sheet.{note_kinds_at, note_as_at, note_bs_at, write_counts_at, range_starts_at, range_lengths_at, constant_kinds_at, constant_values_at}
use Rattle.model.specs.Sheet.{param_widths_at, param_kinds_at, param_as_at, param_bs_at, layout_lengths_at, slot_kinds_at}
use Rattle.sheet.specs.Sizes.{places_of}
use Rattle.sheet.specs.declared.Places.{Places}

-- with the sizes of one kind added up
abbrev placed : ℕ → ℕ → ℕ → ℕ → ℕ → Places
placed n w k p y = record {
  note_kinds = 40 + 8 * n;
  note_as = 40 + 9 * n;
  note_bs = 40 + 11 * n;
  write_counts = 40 + 13 * n;
  range_starts = 40 + 15 * n;
  range_lengths = 40 + 15 * n + 2 * w;
  constant_kinds = 40 + 15 * n + 6 * w;
  constant_values = 40 + 15 * n + 6 * w + k;
  param_widths = 40 + 15 * n + 6 * w + 9 * k;
  param_kinds = 40 + 15 * n + 6 * w + 9 * k + 2 * p;
  param_as = 40 + 15 * n + 6 * w + 9 * k + 3 * p;
  param_bs = 40 + 15 * n + 6 * w + 9 * k + 5 * p;
  layout_lengths = 40 + 15 * n + 6 * w + 9 * k + 7 * p;
  slot_kinds = 40 + 15 * n + 6 * w + 9 * k + 7 * p + 2 * y;
}

pub placed_is : (sheet : List ℕ) {n w k p y : ℕ} → n ≡ size sheet 0 → w ≡ size sheet 1 → k ≡ size sheet 2 → p ≡ size sheet 3 → y ≡ size sheet 4 → placed n w k p y ≡ places_of sheet
unfolding places_of code_count range_count constant_count param_count layout_count code_at note_kinds_at note_as_at note_bs_at write_counts_at range_starts_at range_lengths_at constant_kinds_at constant_values_at
    param_widths_at param_kinds_at param_as_at param_bs_at layout_lengths_at slot_kinds_at
placed_is sheet {n} {w} {k} {p} {y} en ew ek ep ey =
    let e0 : 40 + 8 * n ≡ note_kinds_at sheet = omega arith in
    let e1 : 40 + 9 * n ≡ note_as_at sheet = omega arith in
    let e2 : 40 + 11 * n ≡ note_bs_at sheet = omega arith in
    let e3 : 40 + 13 * n ≡ write_counts_at sheet = omega arith in
    let e4 : 40 + 15 * n ≡ range_starts_at sheet = omega arith in
    let e5 : 40 + 15 * n + 2 * w ≡ range_lengths_at sheet = omega arith in
    let e6 : 40 + 15 * n + 6 * w ≡ constant_kinds_at sheet = omega arith in
    let e7 : 40 + 15 * n + 6 * w + k ≡ constant_values_at sheet = omega arith in
    let e8 : 40 + 15 * n + 6 * w + 9 * k ≡ param_widths_at sheet = omega arith in
    let e9 : 40 + 15 * n + 6 * w + 9 * k + 2 * p ≡ param_kinds_at sheet = omega arith in
    let e10 : 40 + 15 * n + 6 * w + 9 * k + 3 * p ≡ param_as_at sheet = omega arith in
    let e11 : 40 + 15 * n + 6 * w + 9 * k + 5 * p ≡ param_bs_at sheet = omega arith in
    let e12 : 40 + 15 * n + 6 * w + 9 * k + 7 * p ≡ layout_lengths_at sheet = omega arith in
    let e13 : 40 + 15 * n + 6 * w + 9 * k + 7 * p + 2 * y ≡ slot_kinds_at sheet = omega arith in
    cc
