-- `closure_marks::container_fields` meets its contract: the rule at each key of an arm, and of any other opcode each test fails.
-- Assumes nothing.
use mathlib.Core.Path.{refl}
use mathlib.Core.List.{List, [], ◌∷◌}
use Prim.Native.Nat.{ℕ}
use Rattle.model.specs.Opcode.{select}
use Rattle.model.specs.Dependencies.{seed_fields}
use Rattle.model.specs.declared.AnalysisKind.TheVariants.{Container}
use Rattle.closure_marks.specs.Fields.{fields_in}
use Rattle.closure_marks.proofs.SeedRules.{one_of, other}
use Rattle.closure_marks.proofs.seeds.container_fields.Goals as goal

abbrev first : List ℕ
first = 89 ∷ 91 ∷ 96 ∷ 99 ∷ 103 ∷ []

abbrev second : List ℕ
second = 92 ∷ 97 ∷ []

abbrev third : List ℕ
third = 94 ∷ []

abbrev fourth : List ℕ
fourth = 90 ∷ 93 ∷ 95 ∷ 98 ∷ 100 ∷ 104 ∷ []

abbrev fifth : List ℕ
fifth = 101 ∷ []

pub returns-in-89 : goal.returns-in-89
unfolding fields_in seed_fields select
returns-in-89 c = one_of (seed_fields Container) _ first _ refl c.in-89.is

pub returns-in-92 : goal.returns-in-92
unfolding fields_in seed_fields select
returns-in-92 c = one_of (seed_fields Container) _ second _ refl c.in-92.is

pub returns-in-94 : goal.returns-in-94
unfolding fields_in seed_fields select
returns-in-94 c = one_of (seed_fields Container) _ third _ refl c.in-94.is

pub returns-in-90 : goal.returns-in-90
unfolding fields_in seed_fields select
returns-in-90 c = one_of (seed_fields Container) _ fourth _ refl c.in-90.is

pub returns-in-101 : goal.returns-in-101
unfolding fields_in seed_fields select
returns-in-101 c = one_of (seed_fields Container) _ fifth _ refl c.in-101.is

pub returns-in_default : goal.returns-in_default
unfolding fields_in seed_fields select
returns-in_default c = rw (
  other first _ 89 c.in_default.in_default-own.rest.0.0.0.0.1 tt,
  other fourth _ 90 c.in_default.in_default-own.rest.0.1 tt,
  other first _ 91 c.in_default.in_default-own.rest.0.0.0.0.1 tt,
  other second _ 92 c.in_default.in_default-own.rest.0.0.0.1 tt,
  other third _ 94 c.in_default.in_default-own.rest.0.0.1 tt,
  other fourth _ 95 c.in_default.in_default-own.rest.0.1 tt,
  other fourth _ 93 c.in_default.in_default-own.rest.0.1 tt,
  other first _ 96 c.in_default.in_default-own.rest.0.0.0.0.1 tt,
  other second _ 97 c.in_default.in_default-own.rest.0.0.0.1 tt,
  other first _ 99 c.in_default.in_default-own.rest.0.0.0.0.1 tt,
  other first _ 103 c.in_default.in_default-own.rest.0.0.0.0.1 tt,
  other fourth _ 98 c.in_default.in_default-own.rest.0.1 tt,
  other fourth _ 104 c.in_default.in_default-own.rest.0.1 tt,
  other fourth _ 100 c.in_default.in_default-own.rest.0.1 tt,
  other fifth _ 101 c.in_default.in_default-own.rest.1 tt,
)
