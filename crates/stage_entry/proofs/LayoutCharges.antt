-- What the layouts of a fact cost, by the fact's cell.
-- Assumes nothing.
use mathlib.Core.Path.{◌≡◌, refl}
use mathlib.Core.List.{List}
use mathlib.Core.Option.{Option, none, some}
use Prim.Native.Nat.{ℕ, zero, suc, ◌/◌, ◌%◌, ◌<◌, ◌≤◌}
use native.Mathlib.Omega.{arith}
use Rattle.model.specs.Charges.{ok, give, ◌>>◌}
use Rattle.model.specs.Fact.{Fact}
use Rattle.model.specs.Tables.{fact_of, fact_in, cell_of}
use Rattle.model.specs.Transfer.{or_unknown}
use Rattle.model.specs.Parameters.{charge_layout, charge_layouts, charge_fact}
use Rattle.model.specs.declared.FactCell.{FactCell}
use Rattle.model.specs.declared.VerifierResources.{VerifierResources}
use Rattle.fact_row.proofs.Facts.{read}

module _ (sheet : List ℕ) (v : ℕ) (left : VerifierResources) where
  -- Unknown and Conflict
  pub no_layouts : (k : ℕ) → k < 2 → ok tt left ≡ charge_layouts sheet (fact_of k v) left
  unfolding charge_layouts fact_of give
  no_layouts zero h = refl
  no_layouts (suc zero) h = refl
  no_layouts (suc (suc k)) h = absurd (omega arith)

  -- a map
  pub two_layouts : (k : ℕ) → k ≡ 2 → (charge_layout sheet (v / 65536) >> charge_layout sheet (v % 65536)) left ≡ charge_layouts sheet (fact_of k v) left
  unfolding charge_layouts fact_of
  two_layouts k e = rw e

  -- any other known fact
  pub one_layout : (k : ℕ) → 2 ≤ k → (k ≡ 2 → ⊥) → charge_layout sheet (v / 65536) left ≡ charge_layouts sheet (fact_of k v) left
  unfolding charge_layouts fact_of
  one_layout zero h n = absurd (omega arith)
  one_layout (suc zero) h n = absurd (omega arith)
  one_layout (suc (suc zero)) h n = absurd (n refl)
  one_layout (suc (suc (suc k))) h n = refl

-- a fact, or none
pub fact_charged : (sheet : List ℕ) (o : Option Fact) {cell : FactCell} → cell ≡ cell_of (or_unknown o) → (left : VerifierResources) → charge_layouts sheet (fact_in cell) left ≡ charge_fact sheet o left
unfolding or_unknown charge_fact charge_layouts
fact_charged sheet none e left = rw (read _ e)
fact_charged sheet (some fact) e left = rw (read fact e)
