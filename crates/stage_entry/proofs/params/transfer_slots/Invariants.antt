-- `stage_entry::params::transfer_slots` meets its contract: the law of loops that add. Assumes nothing.
use Rattle.model.specs.Sheet.{param_width}
use Rattle.sheet.proofs.Sums.{SumUpto}
use Rattle.stage_entry.proofs.params.transfer_slots.Given as goal

abbrev pub invariant-loop-i : goal.invariant-loop-i
invariant-loop-i l = SumUpto (λ j. param_width l.sheet.bytes.now j) l.count l.sum l.i
