-- `lookup::is_reachable` meets its contract. Assumes nothing.
use Rattle.std.proofs.Common.{rules}
use mathlib.Core.Path.{ap}
use Rattle.model.specs.Lookup.{reachability_with_numbers}
use Rattle.lookup.proofs.Rows.{not_reached, reached, unreadable}
use Rattle.lookup.proofs.tables.is_reachable.Goals as goal

pub returns-in-0 : goal.returns-in-0
returns-in-0 c = ap reachability_with_numbers (not_reached c.args.present.now c.args.pc _ c.present_byte.ensures c.in-0.is)

pub returns-in-1 : goal.returns-in-1
returns-in-1 c = ap reachability_with_numbers (reached c.args.present.now c.args.pc _ c.present_byte.ensures c.in-1.is)

pub returns-in_default : goal.returns-in_default
returns-in_default c = ap reachability_with_numbers (unreadable c.args.present.now c.args.pc _ c.present_byte.ensures (search rules) (search rules))
