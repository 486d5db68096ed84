-- `sheet_questions::question_5::param_named` meets its contract. Assumes nothing.
use Rattle.model.specs.Sheet.{param_named}
use Rattle.sheet.proofs.SizeNames.{counted}
use Rattle.sheet_questions.proofs.question_5.param_named.Goals as goal

pub returns : goal.returns
unfolding param_named
returns c = let n = counted c.args.sheet.now.measured.are in rw (c.layouts_used.ensures, n.layout_count_is, c.param_kind-kind.ensures, c.param_a-a.ensures, c.param_b-b.ensures)
