-- `EndedTables::length_facts` meets its contract, by the law of its loop. Assumes nothing.
use Rattle.call_order.proofs.LengthTables.{StoredUpto}
use Rattle.call_order.proofs.facts.EndedTables.length_facts.Given as goal

abbrev pub invariant-loop-pc : goal.invariant-loop-pc
invariant-loop-pc l =
    StoredUpto l.sheet.bytes.now l.self.slots.now l.self.present.now l.self.kinds.now l.self.values.now l.n l.initial.lengths l.lengths l.pc
