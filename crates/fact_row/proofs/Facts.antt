-- Facts as they lie in cells.
-- Assumes nothing.
use mathlib.Core.Path.{◌≡◌, ap}
use Prim.Native.Nat.{ℕ}
use Rattle.model.specs.Fact.{Fact, kind, value}
use Rattle.model.specs.Tables.{fact_in, cell_of}
use Rattle.model.specs.declared.FactCell.{FactCell}
use Rattle.model.proofs.Facts.{fact_back}

abbrev pub fact_cell : ℕ → ℕ → FactCell
fact_cell k v = record { kind = k; value = v }

-- what a cell stands for is the fact whose cell it is
pub read : (f : Fact) {r : FactCell} → r ≡ cell_of f → fact_in r ≡ f
unfolding fact_in cell_of
read f e = rw e (fact_back f)

-- kind and value of a fact's cell
pub kind_of : (f : Fact) {r : FactCell} → r ≡ cell_of f → r.kind ≡ kind f
unfolding cell_of
kind_of f e = ap (λ (r : FactCell). r.kind) e

pub value_of : (f : Fact) {r : FactCell} → r ≡ cell_of f → r.value ≡ value f
unfolding cell_of
value_of f e = ap (λ (r : FactCell). r.value) e
