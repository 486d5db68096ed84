-- `closure_marks::index_fields` meets its contract: the rule at each key of an arm, and of any other opcode each test fails.
-- Assumes nothing.
use mathlib.Core.Path.{refl}
use mathlib.Core.List.{List, [], ◌∷◌}
use Prim.Native.Nat.{ℕ}
use Rattle.model.specs.Opcode.{select}
use Rattle.model.specs.Dependencies.{seed_fields}
use Rattle.model.specs.declared.AnalysisKind.TheVariants.{IndexCheck}
use Rattle.closure_marks.specs.Fields.{fields_in}
use Rattle.closure_marks.proofs.SeedRules.{one_of, other}
use Rattle.closure_marks.proofs.seeds.index_fields.Goals as goal

abbrev first : List ℕ
first = 5 ∷ 7 ∷ []

abbrev second : List ℕ
second = 6 ∷ 8 ∷ []

pub returns-in-5 : goal.returns-in-5
unfolding fields_in seed_fields select
returns-in-5 c = one_of (seed_fields IndexCheck) _ first _ refl c.in-5.is

pub returns-in-6 : goal.returns-in-6
unfolding fields_in seed_fields select
returns-in-6 c = one_of (seed_fields IndexCheck) _ second _ refl c.in-6.is

pub returns-in_default : goal.returns-in_default
unfolding fields_in seed_fields select
returns-in_default c = rw (
  other first _ 5 c.in_default.in_default-own.rest.0.1 tt,
  other first _ 7 c.in_default.in_default-own.rest.0.1 tt,
  other second _ 6 c.in_default.in_default-own.rest.1 tt,
  other second _ 8 c.in_default.in_default-own.rest.1 tt,
)
