-- `sheet_index::offsets::layout_starts` meets its contract. Assumes nothing.
use native.Mathlib.Omega.{arith}
use Rattle.std.proofs.Common.{rules}
use Rattle.model.specs.Sheet.{layout_length, layout_start}
use Rattle.sheet.proofs.AcceptedSheet.{measured, slot_kinds_all}
use Rattle.sheet.proofs.SizeLimits.{limited}
use Rattle.sheet.proofs.SizeNames.{counted}
use Rattle.sheet_index.specs.Tables.{layout_starts}
use Rattle.sheet_index.proofs.offsets.layout_starts.Goals as goal

pub sums_before-requires-clause-fits : goal.sums_before-requires-clause-fits
unfolding layout_start
sums_before-requires-clause-fits c =
    let a = c.requires.0 in
    let n = counted a.are in
    let l = limited (measured a) in
    (layout_length c.args.sheet.now.bytes.now, (λ i n below said. search rules), rw n.layout_count_is (omega (arith, slot_kinds_all a)))

pub returns : goal.returns
unfolding layout_starts layout_start
returns c =
    let n = counted c.requires.0.are in
    rw (c.sums_before.ensures (layout_length c.args.sheet.now.bytes.now) (λ i n below said. search rules), n.layout_count_is)
