-- `closure_marks::constant_fields` meets its contract: the rule at each key of an arm, and of any other opcode each test fails.
-- Assumes nothing.
use mathlib.Core.Path.{refl}
use mathlib.Core.List.{List, [], ◌∷◌}
use Prim.Native.Nat.{ℕ}
use Rattle.model.specs.Opcode.{select}
use Rattle.model.specs.Dependencies.{seed_fields}
use Rattle.model.specs.declared.AnalysisKind.TheVariants.{Constant}
use Rattle.closure_marks.specs.Fields.{fields_in}
use Rattle.closure_marks.proofs.SeedRules.{one_of, other}
use Rattle.closure_marks.proofs.seeds.constant_fields.Goals as goal

abbrev first : List ℕ
first = 89 ∷ []

abbrev second : List ℕ
second = 13 ∷ 77 ∷ 81 ∷ 96 ∷ 121 ∷ []

abbrev third : List ℕ
third = 87 ∷ []

pub returns-in-89 : goal.returns-in-89
unfolding fields_in seed_fields select
returns-in-89 c = one_of (seed_fields Constant) _ first _ refl c.in-89.is

pub returns-in-77 : goal.returns-in-77
unfolding fields_in seed_fields select
returns-in-77 c = one_of (seed_fields Constant) _ second _ refl c.in-77.is

pub returns-in-87 : goal.returns-in-87
unfolding fields_in seed_fields select
returns-in-87 c = one_of (seed_fields Constant) _ third _ refl c.in-87.is

pub returns-in_default : goal.returns-in_default
unfolding fields_in seed_fields select
returns-in_default c = rw (
  other first _ 89 c.in_default.in_default-own.rest.0.0.1 tt,
  other second _ 77 c.in_default.in_default-own.rest.0.1 tt,
  other second _ 81 c.in_default.in_default-own.rest.0.1 tt,
  other third _ 87 c.in_default.in_default-own.rest.1 tt,
  other second _ 13 c.in_default.in_default-own.rest.0.1 tt,
  other second _ 96 c.in_default.in_default-own.rest.0.1 tt,
  other second _ 121 c.in_default.in_default-own.rest.0.1 tt,
)
