-- `transfer_written::InstructionAt::slots_written` meets its contract: by the analysis. Assumes nothing.
use mathlib.Core.Path.{◌∙◌}
use Rattle.fact_row.proofs.Facts.{read}
use Rattle.fact_row.specs.Tracked.{facts_read}
use Rattle.transfer_written.proofs.Spans.{by_analysis}
use Rattle.transfer_written.proofs.InstructionAt.slots_written.Goals as goal

pub returns : goal.returns
returns c =
    c.instruction_writes.ensures
    ∙ rw (read _ c.elements_fact-before.ensures, c.args.self.now.read) (by_analysis c.args.self.now.ranged.now.sheet.now.bytes.now c.args.self.now.pc c.args.row.now.slots.now (facts_read c.args.row.now) c.args.which)
