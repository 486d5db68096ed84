-- `closure_marks::seed_fields` meets its contract.
-- Assumes nothing.
use mathlib.Core.Path.{refl}
use Rattle.model.specs.Dependencies.{field}
use Rattle.closure_marks.specs.Fields.{fields_in}
use Rattle.closure_marks.specs.declared.Fields.TheVariants.{None, A, B, C, BAndNext, AAndB}
use Rattle.closure_marks.proofs.SeedRules.{fields_held}
use Rattle.closure_marks.proofs.seeds.seed_fields.Goals as goal

pub returns-in-None : goal.returns-in-None
unfolding fields_in field
returns-in-None c = fields_held c.args.inst c.fields_of.result None c.fields_of.ensures c.in-None.is refl

pub returns-in-A : goal.returns-in-A
unfolding fields_in field
returns-in-A c = fields_held c.args.inst c.fields_of.result A c.fields_of.ensures c.in-A.is refl

pub returns-in-B : goal.returns-in-B
unfolding fields_in field
returns-in-B c = fields_held c.args.inst c.fields_of.result B c.fields_of.ensures c.in-B.is refl

pub returns-in-C : goal.returns-in-C
unfolding fields_in field
returns-in-C c = fields_held c.args.inst c.fields_of.result C c.fields_of.ensures c.in-C.is refl

pub returns-in-BAndNext : goal.returns-in-BAndNext
unfolding fields_in field
returns-in-BAndNext c = fields_held c.args.inst c.fields_of.result BAndNext c.fields_of.ensures c.in-BAndNext.is refl

pub returns-in-AAndB : goal.returns-in-AAndB
unfolding fields_in field
returns-in-AAndB c = fields_held c.args.inst c.fields_of.result AAndB c.fields_of.ensures c.in-AAndB.is refl
