-- `transfer_written::RangedSheet::ranges_written` meets its contract: all slots, or those of the instruction's ranges. Assumes nothing.
use mathlib.Core.Path.{ap₂, ◌∙◌}
use native.Mathlib.Omega.{arith}
use borrow.Author.Tests.{ne_eqb}
use Rattle.model.specs.Sheet.{write_count, erred}
use Rattle.transfer_written.specs.Spans.{range_spans}
use Rattle.transfer_written.specs.declared.Written.TheVariants.{Ranges}
use Rattle.transfer_written.proofs.Spans.{in_code, in_firsts}
use Rattle.transfer_written.proofs.RangedSheet.ranges_written.Goals as goal

pub offset_bounds-self-pc : goal.offset_bounds-self-pc
offset_bounds-self-pc c =
    omega (arith, in_firsts c.args.self.now.accepted c.args.self.now.held c.args.pc c.requires)

pub bounds-self-pc : goal.bounds-self-pc
bounds-self-pc c =
    in_firsts c.args.self.now.accepted c.args.self.now.held c.args.pc c.requires

pub returns-in_default : goal.returns-in_default
unfolding range_spans erred
returns-in_default c =
    rw (ne_eqb (write_count c.args.self.now.sheet.now.bytes.now c.args.pc) 65535 (λ q. omega arith))
    (ap₂ Ranges (c.from.ensures ∙ c.args.self.now.held.at c.args.pc (in_code c.args.self.now.accepted c.args.self.now.held c.args.pc c.requires)) (c.from-in_default.ensures ∙ c.write_count.ensures))
