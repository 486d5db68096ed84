-- `index_sheet` meets its contract.
-- Assumes nothing.
use native.Mathlib.Omega.{arith}
use Rattle.sheet.proofs.AcceptedSheet.{measured}
use Rattle.sheet.proofs.SizeNames.{counted}
use Rattle.sheet.proofs.SizeLimits.{limited}
use Rattle.sheet_index.proofs.OffsetTables.{layout_starts_hold}
use Rattle.sheet_index.proofs.index_sheet.Goals as goal

pub layout_starts-requires : goal.layout_starts-requires
layout_starts-requires c = let p = c.requires.0 in (p, (limited (measured p)).layout_count_is)

pub invariant_of-layouts : goal.invariant_of-layouts
invariant_of-layouts c =
    let p = c.requires.0 in
    record { readable = record { accepted = p; begins = layout_starts_hold _ _ c.layout_starts.ensures (omega (arith, (limited (measured p)).layout_count_is, (counted p.are).layout_count_is)) } }

pub layout_classes-requires : goal.layout_classes-requires
layout_classes-requires c = c.requires.2
