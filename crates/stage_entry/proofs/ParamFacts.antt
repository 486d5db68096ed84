-- The facts that parameters bring, by their cells.
-- Assumes nothing.
use mathlib.Core.Path.{◌≡◌, refl, sym, ap, ◌∙◌}
use mathlib.Core.Logic.{◌≢◌}
use mathlib.Core.List.{List}
use mathlib.Core.Option.{Option, none, some}
use Prim.Native.Nat.{ℕ, zero, suc}
use native.Mathlib.Omega.{arith}
use Rattle.model.specs.Fact.{Fact, kind}
use Rattle.model.specs.Sheet.{param_kind}
use Rattle.model.specs.Tables.{cell_of}
use Rattle.model.specs.Transfer.{map_fact, queue_fact, or_unknown}
use Rattle.model.specs.Parameters.{param_fact_by, param_fact}
use Rattle.model.specs.declared.FactCell.{FactCell}
use Rattle.fact_row.proofs.Facts.{kind_of}

-- a fact that a parameter brings is known, so its cell tells it from none
module _ (sheet : List ℕ) (i : ℕ) {cell : FactCell} (is : cell ≡ cell_of (or_unknown (param_fact sheet i))) where
  kind_is : cell.kind ≡ kind (or_unknown (param_fact sheet i))
  kind_is = kind_of (or_unknown (param_fact sheet i)) is

  pub brings_none : cell.kind ≡ 0 → param_fact sheet i ≡ none
  unfolding param_fact param_fact_by or_unknown map_fact queue_fact kind
  brings_none h = go (param_kind sheet i) (sym kind_is ∙ h)
    where
      go : (k : ℕ) → kind (or_unknown (param_fact_by k sheet i)) ≡ 0 → param_fact_by k sheet i ≡ none
      go zero e = refl
      go (suc zero) e = absurd (omega arith)
      go (suc (suc zero)) e = absurd (omega arith)
      go (suc (suc (suc k))) e = refl

  pub brings : cell.kind ≢ 0 → (fact : Fact) × (param_fact sheet i ≡ some fact) × (cell ≡ cell_of fact)
  unfolding or_unknown kind
  brings h = go (param_fact sheet i) refl
    where
      go : (o : Option Fact) → param_fact sheet i ≡ o → (fact : Fact) × (param_fact sheet i ≡ some fact) × (cell ≡ cell_of fact)
      go none e = absurd (h (kind_is ∙ ap (λ (o : Option Fact). kind (or_unknown o)) e))
      go (some fact) e = (fact, e, is ∙ ap (λ (o : Option Fact). cell_of (or_unknown o)) e)
