-- `put_lowest` meets its contract.
-- Assumes nothing.
use native.Mathlib.Omega.{arith}
use Rattle.sheet.proofs.AcceptedSheet.{measured}
use Rattle.sheet.proofs.SizeNames.{counted}
use Rattle.sheet.proofs.SizeLimits.{limited}
use Rattle.sheet_index.proofs.OffsetTables.{layout_starts_hold}
use Rattle.export_loader.proofs.RoomAnswers.{no_layout, put_one}
use Rattle.export_loader.proofs.lowest.put_lowest.Goals as goal

pub returns-then-sheet-layout : goal.returns-then-sheet-layout
returns-then-sheet-layout c = no_layout _ _ _ (omega (arith, (counted c.requires.0.are).layout_count_is, c.if-sheet-layout.true))

pub layout_starts-requires : goal.layout_starts-requires
layout_starts-requires c = let p = c.requires.0 in (p, (limited (measured p)).layout_count_is)

pub invariant_of-layouts : goal.invariant_of-layouts
invariant_of-layouts c = let p = c.requires.0 in record { readable = record { accepted = p; begins = layout_starts_hold _ _ c.layout_starts.ensures (omega (arith, (counted p.are).layout_count_is, (limited (measured p)).layout_count_is)) } }

pub returns : goal.returns
returns c = let p = c.requires in put_one _ c.args.layout _ (omega (arith, (counted p.0.are).layout_count_is, c.if-sheet-layout.false)) p.1 c.lowest.ensures
