-- `Tables::agree` meets its contract. Assumes nothing.
use mathlib.Core.Path.{sym, ◌∙◌}
use Rattle.lookup.proofs.Agreement.{unordered, other_kinds_agree, by_values}
use Rattle.lookup.proofs.tables.Tables.agree.Goals.{then-ascending, else-ascending}
use Rattle.lookup.proofs.tables.Tables.agree.Goals as goal

pub returns-then-is_product : goal.returns-then-is_product
returns-then-is_product c =
    rw (← c.self.view_is)
    (elim c.if-ascending.branch [
      | then-ascending w ↦ c.is_product-then-is_product.ensures
          ∙ by_values _ _ _ _ (sym c.ascending.ensures ∙ w.if-ascending.true) (sym w.is_product.ensures ∙ sym w.value-is ∙ c.if-is_product.true)
      | else-ascending w ↦ cc
    ])

pub returns-else-is_product : goal.returns-else-is_product
returns-else-is_product c =
    rw (← c.self.view_is)
    (elim c.if-ascending.branch [
      | then-ascending w ↦ c.if-is_product.false
          ∙ other_kinds_agree _ _ _ _ (sym c.ascending.ensures ∙ w.if-ascending.true) (sym w.is_product.ensures ∙ sym w.value-is ∙ c.if-is_product.false)
      | else-ascending w ↦ c.if-is_product.false ∙ unordered _ _ _ _ (sym c.ascending.ensures ∙ w.if-ascending.false)
    ])
