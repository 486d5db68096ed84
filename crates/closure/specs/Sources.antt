-- The edges to one slot, as the definitions have them.
-- Assumes nothing.
use Rattle.std.specs.Prelude.{◌≡◌, ℕ, Bool, true, false, List, [], ◌∷◌, length}
use Rattle.model.specs.Dependencies.{FactDependency}
use Rattle.model.specs.Closure.{follow}
use Rattle.closure_marks.specs.Marks.{Steps, slots_in}
use Rattle.closure.specs.declared.follow.SlotEdges.{SlotEdges}
use Rattle.closure_marks.specs.declared.mark.SlotMarks.{SlotMarks}

-- edges to d from the sources, all of one mask
unfoldable pub edges_from : ℕ → ℕ → List ℕ → List FactDependency
edges_from d kinds [] = []
edges_from d kinds (source ∷ sources) = record { destination = d; source = source; kinds = kinds } ∷ edges_from d kinds sources

-- the edges of a value
unfoldable pub edges_in : ℕ → SlotEdges → List FactDependency
edges_in d e = edges_from d e.kinds (slots_in e.sources)

-- a slot, where the test holds
unfoldable pub only_if : Bool → ℕ → List ℕ
only_if true slot = slot ∷ []
only_if false slot = []

-- The edges are counted, all of them, and those of the bit are followed.
pub record Follows (bit : ℕ) (es : List FactDependency) (old new : SlotMarks) (count : ℕ) : Type 0 where
  pub counts : count ≡ length es
  pub goes : Steps (follow bit es) old new
