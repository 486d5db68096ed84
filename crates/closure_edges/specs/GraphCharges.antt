-- The charges before the analyses.
-- Assumes nothing.
use Rattle.std.specs.Prelude.{List, ℕ}
use Rattle.model.specs.Charges.{Metered, ◌>>◌}
use Rattle.model.specs.Dependencies.{charge_dependencies}
use Rattle.model.specs.Analyses.{charge_flow}

-- "Order: flow graph, dependencies"
unfoldable pub charge_graph : List ℕ → Metered (Unit {0})
charge_graph sheet = charge_flow sheet >> charge_dependencies sheet
