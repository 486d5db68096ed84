-- `facts_call::list_facts` meets its contract. Assumes nothing.
use Rattle.std.proofs.Common.{arith, rules}
use Rattle.sheet.proofs.SizeNames.{counted}
use Rattle.stage_memory.specs.Lent.{lent_in}
use Rattle.text_lines.proofs.TextWritten.{shown}
use Rattle.facts_call.proofs.ListedCall.{listing_call, call_tables, call_shown, roomy}
use Rattle.facts_call.proofs.list_facts.Goals as goal

-- ---- needs
pub analyze_indexed-answer-requires : goal.analyze_indexed-answer-requires
analyze_indexed-answer-requires c =
    let l = (counted c.args.indexed.now.sheet.now.measured.are).local_slots_is in
    (omega (arith, c.requires.1), omega (arith, c.requires.1))

pub call_lines-requires : goal.call_lines-requires
call_lines-requires c =
    let l = c.analyze_indexed-answer.new in
    let same = c.analyze_indexed-answer.ensures.same in
    rw (c.tables.ensures, c.tables-2.ensures, c.tables-3.ensures) (
      call_tables _ (counted c.args.indexed.now.sheet.now.measured.are).code_count_is _ (lent_in l.constants l.index l.containers l.scratch)
          (listing_call _ c.new.ensures c.analyze_indexed-answer.ensures.call)
          (omega (arith, same.0.slots.same_length)) (omega (arith, same.1.slots.same_length)) (omega (arith, same.2.slots.same_length)),
      c.requires.0,
      roomy c.new-page.ensures c.requires.2,
    )

pub returns : goal.returns
returns c =
    let l = c.analyze_indexed-answer.new in
    call_shown _ (counted c.args.indexed.now.sheet.now.measured.are).code_count_is _ (lent_in l.constants l.index l.containers l.scratch)
    (listing_call _ c.new.ensures c.analyze_indexed-answer.ensures.call) c.args.indexed.now.classed
    (rw (← c.tables.ensures, ← c.tables-2.ensures, ← c.tables-3.ensures) (shown c.new-page.ensures c.call_lines.ensures c.finished.ensures.count (search rules)))
