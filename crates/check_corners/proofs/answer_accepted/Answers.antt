-- `check_corners::answer_accepted` is safe: there is room for n first ranges, and they are what the leaves ask for.
-- Assumes nothing.
use Rattle.std.proofs.Common.{arith}
use Rattle.sheet.proofs.SizeNames.{counted}
use Rattle.sheet.proofs.SizeLimits.{limited}
use Rattle.sheet_index.proofs.OffsetTables.{first_ranges_hold}
use Rattle.check_corners.proofs.answer_accepted.Goals as goal

pub first_ranges-requires : goal.first_ranges-requires
first_ranges-requires g c = (c.requires, (limited c.args.sheet.now.measured).code_count_is)

pub invariant_of-ranged : goal.invariant_of-ranged
invariant_of-ranged g c =
    let m = c.args.sheet.now.measured in
    record {
      accepted = c.requires;
      held = first_ranges_hold _ _ c.first_ranges.ensures (omega (arith, (counted m.are).code_count_is, (limited m).code_count_is));
    }
