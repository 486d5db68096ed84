-- `sheet_questions::question_5::note_named` meets its contract. Assumes nothing.
use Rattle.model.specs.Sheet.{note_named}
use Rattle.sheet.proofs.SizeNames.{counted}
use Rattle.sheet_questions.proofs.question_5.note_named.Goals as goal

pub returns : goal.returns
unfolding note_named
returns c = let n = counted c.args.sheet.now.measured.are in rw (c.layouts_used.ensures, n.layout_count_is, c.note_kind-kind.ensures, c.note_a-a.ensures, c.note_b-b.ensures)
