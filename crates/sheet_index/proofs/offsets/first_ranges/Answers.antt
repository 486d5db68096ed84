-- `sheet_index::offsets::first_ranges` meets its contract. Assumes nothing.
use native.Mathlib.Omega.{arith}
use Rattle.std.proofs.Common.{rules}
use Rattle.std.proofs.iter.Serving.{serving}
use Rattle.model.specs.Sheet.{ranges_of, first_range}
use Rattle.sheet.proofs.AcceptedSheet.{measured, ranges_all}
use Rattle.sheet.proofs.SizeLimits.{limited}
use Rattle.sheet.proofs.SizeNames.{counted}
use Rattle.sheet_index.specs.Tables.{first_ranges}
use Rattle.sheet_index.proofs.offsets.first_ranges.Goals as goal

pub sums_before-requires-clause-callable : goal.sums_before-requires-clause-callable
sums_before-requires-clause-callable c = let n = counted c.requires.0.are in grind (serving, n)

pub sums_before-requires-clause-fits : goal.sums_before-requires-clause-fits
unfolding first_range
sums_before-requires-clause-fits c =
    let a = c.requires.0 in
    let n = counted a.are in
    let l = limited (measured a) in
    (ranges_of c.args.sheet.now.bytes.now, (λ i n below said. search rules), rw n.code_count_is (omega (arith, ranges_all a)))

pub returns : goal.returns
unfolding first_ranges first_range
returns c =
    let n = counted c.requires.0.are in
    rw (c.sums_before.ensures (ranges_of c.args.sheet.now.bytes.now) (λ i n below said. search rules), n.code_count_is)
