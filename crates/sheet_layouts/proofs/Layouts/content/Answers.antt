-- `sheet_layouts::Layouts::content` meets its contract. Assumes nothing.
use mathlib.Core.Path.{sym}
use native.Mathlib.Omega.{arith}
use Prim.Native.Nat.{◌<◌}
use Rattle.model.specs.Sheet.{layout, layout_count}
use Rattle.sheet.proofs.SizeNames.{counted}
use Rattle.sheet.proofs.SizeLimits.{limited}
use Rattle.sheet.proofs.AcceptedSheet.{measured, layout_fits}
use Rattle.sheet_layouts.proofs.LowestSearch.{empty_past}
use Rattle.sheet_layouts.proofs.Layouts.content.Goals as goal

pub returns-then-self-i : goal.returns-then-self-i
returns-then-self-i c = let n = counted c.args.self.now.readable.accepted.are in sym (empty_past c.args.self.now.sheet.now.bytes.now c.args.i (omega arith))

pub offset_bounds-self-i : goal.offset_bounds-self-i
offset_bounds-self-i c = omega (arith, (limited (measured c.args.self.now.readable.accepted)).layout_count_is)

pub bounds-self-i : goal.bounds-self-i
bounds-self-i c = let n = counted c.args.self.now.readable.accepted.are in omega arith

pub slot_kinds-requires : goal.slot_kinds-requires
slot_kinds-requires c =
    let a = c.args.self.now.readable.accepted in
    let n = counted a.are in
    let at : c.args.i < layout_count c.args.self.now.sheet.now.bytes.now = omega arith in
    omega (arith, layout_fits a c.args.i c.if-self-i.false, c.args.self.now.readable.begins.at c.args.i at)

pub returns : goal.returns
unfolding layout
returns c =
    let n = counted c.args.self.now.readable.accepted.are in
    let at : c.args.i < layout_count c.args.self.now.sheet.now.bytes.now = omega arith in
    rw (c.slot_kinds.ensures, c.args.self.now.readable.begins.at c.args.i at, c.layout_length-count.ensures)
