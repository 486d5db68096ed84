-- `enter_tracked` meets its contract.
-- Assumes nothing.
use mathlib.Core.Logic.{inl, inr}
use mathlib.Core.Path.{sym, ◌∙◌}
use lib.Seq.{length-take-le}
use Rattle.sheet.proofs.SizeNames.{counted}
use Rattle.sheet.proofs.SizeLimits.{limited}
use Rattle.stage_prepare.proofs.RoomAndRow.{room_given, places_fit, refused_room, ended_at_once, entry_asks, entered_row}
use borrow.Author.Rules.{rules}
use Rattle.stage_prepare.proofs.begin.enter_tracked.Goals as goal

pub room_for-requires : goal.room_for-requires
room_for-requires c = ((limited c.args.sheet.now.measured).code_count_is, c.requires.0)

pub returns-then-not-room_for : goal.returns-then-not-room_for
returns-then-not-room_for c =
    let a = c.args in
    refused_room a.which a.sheet.now.bytes.now _ a.s (counted a.sheet.now.measured.are).code_count_is a.slots.now a.row_kinds.now a.row_values.now a.room a.resources c.requires.2
    c.requires.3 (sym c.room_for.ensures ∙ c.if-not-room_for.true)

pub returns-then-n-eq0 : goal.returns-then-n-eq0
returns-then-n-eq0 c =
    let a = c.args in
    ended_at_once a.which a.sheet.now.bytes.now _ a.s (counted a.sheet.now.measured.are).code_count_is a.slots.now a.row_kinds.now a.row_values.now a.room a.resources c.requires.2
    c.requires.3 (room_given a.sheet.now.sizes.code_count a.s a.slots.now a.row_kinds.now a.row_values.now a.room c.room_for.ensures c.if-not-room_for.false) (inl c.if-n-eq0.true)

pub returns-then-s-eq0 : goal.returns-then-s-eq0
returns-then-s-eq0 c =
    let a = c.args in
    ended_at_once a.which a.sheet.now.bytes.now _ a.s (counted a.sheet.now.measured.are).code_count_is a.slots.now a.row_kinds.now a.row_values.now a.room a.resources c.requires.2
    c.requires.3 (room_given a.sheet.now.sizes.code_count a.s a.slots.now a.row_kinds.now a.row_values.now a.room c.room_for.ensures c.if-not-room_for.false) (inr c.if-s-eq0.true)

pub slice_bounds-entry_row-end : goal.slice_bounds-entry_row-end
slice_bounds-entry_row-end c = let a = c.args in sym (length-take-le _ a.slots.now (places_fit a.sheet.now.sizes.code_count a.s a.slots.now a.row_kinds.now a.row_values.now a.room c.room_for.ensures c.if-not-room_for.false).0)

pub slice_bounds-entry_row-end-2 : goal.slice_bounds-entry_row-end-2
slice_bounds-entry_row-end-2 c = let a = c.args in (places_fit a.sheet.now.sizes.code_count a.s a.slots.now a.row_kinds.now a.row_values.now a.room c.room_for.ensures c.if-not-room_for.false).1

pub slice_bounds-entry_row-end-3 : goal.slice_bounds-entry_row-end-3
slice_bounds-entry_row-end-3 c = let a = c.args in sym (length-take-le _ a.row_kinds.now (places_fit a.sheet.now.sizes.code_count a.s a.slots.now a.row_kinds.now a.row_values.now a.room c.room_for.ensures c.if-not-room_for.false).1)

pub slice_bounds-entry_row-end-4 : goal.slice_bounds-entry_row-end-4
slice_bounds-entry_row-end-4 c = let a = c.args in (places_fit a.sheet.now.sizes.code_count a.s a.slots.now a.row_kinds.now a.row_values.now a.room c.room_for.ensures c.if-not-room_for.false).2

pub slice_bounds-entry_row-end-5 : goal.slice_bounds-entry_row-end-5
slice_bounds-entry_row-end-5 c = let a = c.args in sym (length-take-le _ a.row_values.now (places_fit a.sheet.now.sizes.code_count a.s a.slots.now a.row_kinds.now a.row_values.now a.room c.room_for.ensures c.if-not-room_for.false).2)

pub entry_row-requires : goal.entry_row-requires
entry_row-requires c =
    let a = c.args in
    entry_asks a.which a.sheet.now.bytes.now _ a.s (counted a.sheet.now.measured.are).code_count_is a.slots.now a.row_kinds.now a.row_values.now a.room a.resources c.requires.2
    c.requires.3 (room_given a.sheet.now.sizes.code_count a.s a.slots.now a.row_kinds.now a.row_values.now a.room c.room_for.ensures c.if-not-room_for.false) c.requires.0 c.requires.1 c.if-n-eq0.false c.if-s-eq0.false

pub returns : goal.returns
returns c =
    let a = c.args in
    entered_row a.which a.sheet.now.bytes.now _ a.s (counted a.sheet.now.measured.are).code_count_is a.slots.now a.row_kinds.now a.row_values.now a.room a.resources c.requires.2
    c.requires.3 (room_given a.sheet.now.sizes.code_count a.s a.slots.now a.row_kinds.now a.row_values.now a.room c.room_for.ensures c.if-not-room_for.false) _ _ c.entry_row.ensures (search rules) (search rules)
