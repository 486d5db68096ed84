-- `vo_facts_analyze` meets its contract: too short a memory for the answer, or the call. Assumes nothing.
use Rattle.std.proofs.Common.{rules}
use Rattle.stage_memory.specs.Lent.{lent_in}
use Rattle.export.proofs.Wrappers.{too_few, all_handed}
use Rattle.export.proofs.vo_facts_analyze.Goals as goal

pub returns-then-answer-lt12 : goal.returns-then-answer-lt12
returns-then-answer-lt12 c = too_few c.args.sheet.now _ _ c.args.answer.now c.if-answer-lt12.true

pub returns : goal.returns
returns c =
    let l = c.analyze-ended.new in
    all_handed c.args.sheet.now _ _ c.args.answer.now c.if-answer-lt12.false c.analyze-ended.result (lent_in l.constants l.index l.containers l.scratch)
    c.analyze-ended.ensures.call c.put_answer.ensures (search rules)
