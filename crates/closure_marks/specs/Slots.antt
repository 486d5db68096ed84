-- The marked slots, where they are written.
-- Assumes nothing.
use Rattle.std.specs.Prelude.{Bool, true, false, List, ◌++◌, ℕ, leb, length, set, drop}

-- an element stored, unless the test holds
unfoldable pub stored_unless : Bool → List ℕ → ℕ → ℕ → List ℕ
stored_unless true old at x = old
stored_unless false old at x = set old at x

unfoldable pub fitted_if : Bool → List ℕ → List ℕ → List ℕ
fitted_if true slots old = slots ++ drop (length slots) old
fitted_if false slots old = old

-- the slots in the first places, where they fit; else what was there
unfoldable pub fitted : List ℕ → List ℕ → List ℕ
fitted slots old = fitted_if (leb (length slots) (length old)) slots old
