-- The twelve entries of an answer, from their parts.
-- Assumes nothing.
use Rattle.std.specs.Prelude.{List, [], ◌∷◌, ◌++◌, ℕ}
use Rattle.model.specs.Call.{counts_given, resources, answer_numbered}
use Rattle.model.specs.Interface.{or_zeros, twelve}
use Rattle.model.specs.declared.VerifierResources.{VerifierResources}
use Rattle.model.specs.declared.Counts.{Counts}

-- all twelve, zeros among them
unfoldable pub entries : ℕ → Counts → Counts → Counts → VerifierResources → ℕ → ℕ → ℕ → List ℕ
entries number constant index container left stage requested remaining = twelve (record {
  number = number;
  counted = counts_given constant ++ counts_given index ++ counts_given container;
  budget = resources left;
  refused = stage ∷ requested ∷ remaining ∷ [];
})

-- the counts of an outcome that has none
unfoldable pub nothing : Counts
nothing = record { tracked = 0; pops = 0 }

-- `unfolding numbers_compute` unfolds all of this, and what it is told by.
unfoldable pub numbers_compute : Unit {0}
unfolding counts_given resources or_zeros twelve answer_numbered entries nothing
numbers_compute = tt
