-- `sheet_questions::sheet_check::check_fields` meets its contract. Assumes nothing.
use Rattle.sheet_questions.specs.Check.{sized}
use Rattle.sheet_questions.proofs.FirstRefusal.{refused_4, refused_5, unrefused}
use Rattle.sheet_questions.proofs.sheet_check.check_fields.Goals as goal

pub returns-then-not-sums_match-clause-answer : goal.returns-then-not-sums_match-clause-answer
unfolding sized
returns-then-not-sums_match-clause-answer c = refused_4 c.args.sheet.measured (cc)

pub returns-then-not-kinds_named-clause-answer : goal.returns-then-not-kinds_named-clause-answer
unfolding sized
returns-then-not-kinds_named-clause-answer c = refused_5 c.args.sheet.measured (cc) (cc)

pub returns-clause-answer : goal.returns-clause-answer
unfolding sized
returns-clause-answer c = unrefused c.args.sheet.measured (cc) (cc)
