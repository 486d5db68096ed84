-- `sheet_questions::sums::sums_match` meets its contract. Assumes nothing.
use native.Mathlib.Omega.{arith}
use borrow.Author.Tests.{eq-eqb, ne_eqb}
use Rattle.std.proofs.Common.{rules}
use Rattle.model.specs.Sheet.{sums_match, first_range, layout_start, ranges_of, layout_length}
use Rattle.sheet.proofs.SizeLimits.{limited}
use Rattle.sheet.proofs.SizeNames.{counted}
use Rattle.sheet_questions.proofs.sums.sums_match.Goals as goal

pub total-ranges-requires-clause-few : goal.total-ranges-requires-clause-few
total-ranges-requires-clause-few c = let l = limited c.args.sheet.now.measured in omega arith

pub returns-then-ranges-sheet : goal.returns-then-ranges-sheet
unfolding sums_match first_range
returns-then-ranges-sheet c =
    let n = counted c.args.sheet.now.measured.are in
    rw (← n.code_count_is, ← n.range_count_is, ← c.total-ranges.ensures (ranges_of c.args.sheet.now.bytes.now) (λ pc r below said. search rules), ne_eqb _ _ c.if-ranges-sheet.true)

pub total-slot_kinds-requires-clause-few : goal.total-slot_kinds-requires-clause-few
total-slot_kinds-requires-clause-few c = let l = limited c.args.sheet.now.measured in omega arith

pub returns : goal.returns
unfolding sums_match first_range layout_start
returns c =
    let n = counted c.args.sheet.now.measured.are in
    rw (
      ← n.code_count_is,
      ← n.range_count_is,
      ← n.layout_count_is,
      ← n.slot_kind_count_is,
      ← c.total-ranges.ensures (ranges_of c.args.sheet.now.bytes.now) (λ pc r below said. search rules),
      ← c.total-slot_kinds.ensures (layout_length c.args.sheet.now.bytes.now) (λ i r below said. search rules),
      eq-eqb _ _ c.if-ranges-sheet.false,
    )
